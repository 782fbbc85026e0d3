-- What is known of names stays what the rules say of them, where it is said of one more.
use denote.Ref.{Bor}
use Rattle.std.proofs.Common.{◌≡◌, ℕ, List, Bool, true, false, cond, Option, Some, None, ap, sym, refl, subst, ◌∙◌}
use Rattle.std.proofs.lemmas.Map.Text.{btree_map_updates_str}
use Rattle.std.proofs.lemmas.Option.{same_Some}
use Rattle.std.proofs.lemmas.Slice.Eq.{bytes_eq-Decides}
use Rattle.std.specs.BTreeMap.{BTreeMap, UpdatesBy, get, get_by, is_at}
use Rattle.std.specs.Cmp.Lexicographic.{slice_cmp}
use Rattle.std.specs.Ordering.{nat_cmp}
use Rattle.std.specs.Prelude.{IfSome}
use Rattle.std.specs.Str.{bytes_eq}
use Rattle.script_steps.specs.declared.operation.Decision.{Decision}
use Rattle.access_policy.specs.Candidates.{IsKnown, Numbered, first_of}
use Rattle.access_policy.specs.KnownNames.{AreSaid, Said}
use Rattle.access_policy.specs.Names.{items_of}
use Rattle.access_policy.specs.declared.policy.Access.{Access}

here_or_before : (same : Bool) (decision found meant : Decision) (before : Option Decision)
    → (same ≡ true → decision ≡ meant) → (before ≡ Some found → found ≡ meant)
    → cond same (Some decision) before ≡ Some found → found ≡ meant
here_or_before true decision found meant before here there is = sym (same_Some decision found is) ∙ here refl
here_or_before false decision found meant before here there is = there is

pub known_more : (access : Access) (candidates : List Numbered) (old new : BTreeMap (Bor (List ℕ)) Decision)
    (name : List ℕ) (decision : Decision)
    → IsKnown access candidates old → decision ≡ first_of access (items_of name) candidates
    → UpdatesBy (λ x y. slice_cmp nat_cmp x.now y.now) (λ key. slice_cmp nat_cmp name key.now) old new (Some decision)
    → IsKnown access candidates new
known_more access candidates old new name decision known meant updates = λ other found is.
    here_or_before (bytes_eq name other) decision found (first_of access (items_of other) candidates)
    (get_by (λ key. slice_cmp nat_cmp other key.now) old)
    (λ same. meant ∙ ap (λ name. first_of access (items_of name) candidates) ((bytes_eq-Decides name other).0 same))
    (known other found)
    (sym (btree_map_updates_str name old new (Some decision) updates other) ∙ is)

said_or_before : (here : Bool) (said found : Said) (before : Option Said) (P : Said → Type 0) → P said
    → (before ≡ Some found → P found) → cond here (Some said) before ≡ Some found → P found
said_or_before true said found before P holds earlier is = subst P (same_Some said found is) holds
said_or_before false said found before P holds earlier is = earlier is

pub said_more : (access : Access) (candidates : List Numbered) (old new : BTreeMap ℕ Said) (number : ℕ) (said : Said)
    → AreSaid access candidates old → said.1 ≡ first_of access (items_of said.0.now) candidates
    → ((other : ℕ) → get nat_cmp new other ≡ cond (is_at (nat_cmp number) other) (Some said) (get nat_cmp old other))
    → AreSaid access candidates new
said_more access candidates old new number said known meant updates = λ other found is.
    said_or_before (is_at (nat_cmp number) other) said found (get nat_cmp old other)
    (λ s. s.1 ≡ first_of access (items_of s.0.now) candidates) meant (known other found) (sym (updates other) ∙ is)

pub said_by_name : (access : Access) (candidates : List Numbered) (known : BTreeMap (Bor (List ℕ)) Decision)
    (name : List ℕ) (result : Option Decision) → result ≡ get_by (λ key. slice_cmp nat_cmp name key.now) known
    → IsKnown access candidates known
    → IfSome result (λ decision. decision ≡ first_of access (items_of name) candidates)
said_by_name access candidates known name None is are = tt
said_by_name access candidates known name (Some decision) is are = are name decision (sym is)
