-- Datagrams in one store: what more bytes behind it leave, and one more datagram.
use Rattle.std.proofs.Common.{◌≡◌, ℕ, ◌+◌, ◌-◌, ◌≤◌, List, [], ◌∷◌, ◌++◌, length, take, drop, refl, ap, ◌∙◌}
use Rattle.std.proofs.Common.{arith, length-drop}
use Rattle.std.specs.List.{slice_range}
use Rattle.std.proofs.lemmas.List.{take-append-le, drop-append-le, map-append, take_all}
use Rattle.std.proofs.Math.Seq.{drop-append_seam}
use Rattle.world_model.specs.declared.datagram.Datagram.{Datagram}
use Rattle.lossy_network.specs.declared.datagrams.Entry.{Entry}
use Rattle.lossy_network.specs.Store.{datagram_in, stored_bytes, AreWithin}

range_before : (bytes more : List ℕ) (start end : ℕ) → start ≤ end → end ≤ length bytes
    → slice_range (bytes ++ more) start end ≡ slice_range bytes start end
range_before bytes more start end order within =
    ap (take (end - start)) (drop-append-le start bytes more (omega (arith, order, within)))
    ∙ take-append-le (end - start) (drop start bytes) more (omega (arith, length-drop start bytes, order, within))

range_behind : (bytes more : List ℕ) → slice_range (bytes ++ more) (length bytes) (length bytes + length more) ≡ more
range_behind bytes more =
    ap (take ((length bytes + length more) - length bytes)) (drop-append_seam bytes more)
    ∙ take_all ((length bytes + length more) - length bytes) more (omega arith)

stored_before : (bytes more : List ℕ) (entries : List Entry) → AreWithin (length bytes) entries
    → stored_bytes (bytes ++ more) entries ≡ stored_bytes bytes entries
stored_before bytes more [] within = refl
stored_before bytes more (entry ∷ entries) within =
    ap (λ (b : List ℕ). record { direction = entry.direction; bytes = b; birth = entry.birth }
    ∷ stored_bytes (bytes ++ more) entries) (range_before bytes more entry.start entry.end within.0.0 within.0.1)
    ∙ ap (λ (ds : List Datagram). datagram_in bytes entry ∷ ds) (stored_before bytes more entries within.1)

-- one more datagram, whose bytes stand behind the others
pub stored_more : (bytes more : List ℕ) (entries : List Entry) (entry : Entry) → AreWithin (length bytes) entries
    → entry.start ≡ length bytes → entry.end ≡ length bytes + length more
    → stored_bytes (bytes ++ more) (entries ++ entry ∷ []) ≡ stored_bytes bytes entries
    ++ record { direction = entry.direction; bytes = more; birth = entry.birth } ∷ []
stored_more bytes more entries entry within starts ends =
    map-append (datagram_in (bytes ++ more)) entries (entry ∷ [])
    ∙ (ap (λ (ds : List Datagram). ds ++ datagram_in (bytes ++ more) entry ∷ []) (stored_before bytes more entries within)
    ∙ ap (λ (b : List ℕ). stored_bytes bytes entries ++ record { direction = entry.direction; bytes = b; birth = entry.birth }
    ∷ []) (ap (λ (s : ℕ). slice_range (bytes ++ more) s entry.end) starts
    ∙ (ap (slice_range (bytes ++ more) (length bytes)) ends ∙ range_behind bytes more)))

-- they are all within the longer store
pub within_more : (count more : ℕ) (entries : List Entry) (entry : Entry) → AreWithin count entries
    → entry.start ≤ entry.end → entry.end ≤ more → count ≤ more → AreWithin more (entries ++ entry ∷ [])
within_more count more [] entry within order end longer = ((order, end), tt)
within_more count more (first ∷ entries) entry within order end longer =
    ((within.0.0, omega (arith, within.0.1, longer)), within_more count more entries entry within.1 order end longer)
