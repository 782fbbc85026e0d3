-- The form of each reply that a bus gives: done or failed, how many words it counts and carries.
use Rattle.std.proofs.Common.{◌≡◌, ℕ, ◌<◌, ◌≤◌, ◌⊎◌, inl, inr, suc, false, eqb, List, [], ◌∷◌, length, map, replicate}
use Rattle.std.proofs.Common.{Option, Some, None, Result, Ok, Err, refl, sym, ap, ◌∙◌, arith, lit≤}
use Rattle.std.specs.List.{enumerate_from, range_with_len}
use Rattle.std.specs.Result.{ok_prefix}
use Rattle.std.proofs.lemmas.Bool.Decides.{nat_tests}
use Rattle.std.proofs.lemmas.List.{length-replicate, length-map}
use Rattle.std.proofs.lemmas.List.FromFn.{length-range_with_len, length-enumerate_from}
use Rattle.transaction_codec.specs.declared.request.Op.{Op}
use Rattle.transaction_codec.specs.declared.request.Op.TheVariants.{Read, ReadPort, Write, WritePort, RmwBits, RmwSum}
use Rattle.transaction_codec.specs.declared.transaction_type.TheConstants.{READ, WRITE, READ_PORT, WRITE_PORT, RMW_BITS}
use Rattle.transaction_codec.specs.declared.transaction_type.TheConstants.{RMW_SUM}
use Rattle.transaction_codec.specs.declared.info_code.TheConstants.{SUCCESS, READ_ERROR, WRITE_ERROR, READ_TIMEOUT}
use Rattle.transaction_codec.specs.declared.info_code.TheConstants.{WRITE_TIMEOUT}
use Rattle.transaction_codec.specs.Request.{op_kind, op_count}
use Rattle.transaction_codec.specs.Reply.{IsBusFault, HasForm}
use Rattle.transaction_codec.specs.Answer.{values_done, Fails}
use Rattle.board_bus.specs.declared.kind.RangeKind.TheVariants.{Rw, Ro, Wo, Slow}
use Rattle.board_bus.specs.declared.fault.BusFault.{BusFault}
use Rattle.board_bus.specs.declared.fault.BusFault.TheVariants.{ReadError, WriteError, ReadTimeout, WriteTimeout}
use Rattle.board_bus.specs.Fault.{fault_code, info_code}
use Rattle.board_bus.specs.Cells.{Cell, CellMap, cell_at, read_cell, read_word, write_cell, write_word}
use Rattle.board_bus.specs.Transactions.{Writing, first_fault, words_read, fault_of_reading, of_reading, write_on}
use Rattle.board_bus.specs.Transactions.{write_words, Modified, modify, of_modifying, masked_word, sum_word, outcome}

-- a read is refused as a read, and a write as a write
abbrev IsReadFault : ℕ → Type 0
IsReadFault code = (code ≡ READ_ERROR) ⊎ (code ≡ READ_TIMEOUT)

abbrev IsWriteFault : ℕ → Type 0
IsWriteFault code = (code ≡ WRITE_ERROR) ⊎ (code ≡ WRITE_TIMEOUT)

fault_is : {A : Type 0} (x y : BusFault) → ◌≡◌ {A = Result A BusFault} (Err x) (Err y) → x ≡ y
fault_is x y h = cc

read_cell-fault : (cell : Option Cell) (fault : BusFault) → read_cell cell ≡ Err fault → IsReadFault (fault_code fault)
read_cell-fault None fault is = inl (ap fault_code (sym (fault_is ReadError fault is)))
read_cell-fault (Some cell) fault is =
    elim (cell.kind) as (λ k. read_cell (Some (record { kind = k; word = cell.word })) ≡ Err fault
    → IsReadFault (fault_code fault)) [
      | Rw ↦ λ e. absurd cc
      | Ro ↦ λ e. absurd cc
      | Wo ↦ λ e. inl (ap fault_code (sym (fault_is ReadError fault e)))
      | Slow ↦ λ e. inr (ap fault_code (sym (fault_is ReadTimeout fault e)))
    ] is

write_cell-fault : (cells : CellMap) (address word : ℕ) (cell : Option Cell) (fault : BusFault)
    → write_cell cells address word cell ≡ Err fault → IsWriteFault (fault_code fault)
write_cell-fault cells address word None fault is = inl (ap fault_code (sym (fault_is WriteError fault is)))
write_cell-fault cells address word (Some cell) fault is =
    elim (cell.kind) as (λ k. write_cell cells address word (Some (record { kind = k; word = cell.word })) ≡ Err fault
    → IsWriteFault (fault_code fault)) [
      | Rw ↦ λ e. absurd cc
      | Ro ↦ λ e. inl (ap fault_code (sym (fault_is WriteError fault e)))
      | Wo ↦ λ e. absurd cc
      | Slow ↦ λ e. inr (ap fault_code (sym (fault_is WriteTimeout fault e)))
    ] is

abbrev AllDone : Option BusFault → ℕ → ℕ → Type 0
AllDone fault done wanted = (info_code fault ≡ SUCCESS) × (done ≡ wanted)

read-shape : (cells : CellMap) (addresses : List ℕ)
    → AllDone (fault_of_reading cells addresses) (length (words_read cells addresses)) (length addresses)
    ⊎ (IsReadFault (info_code (fault_of_reading cells addresses))
    × (length (words_read cells addresses) < length addresses))
read-shape cells [] = inl (refl, refl)
read-shape cells (address ∷ later) =
    let rest = map (read_word cells) later in
    elim (read_word cells address) as (λ (r : Result ℕ BusFault). read_word cells address ≡ r
    → AllDone (first_fault (r ∷ rest)) (length (ok_prefix (r ∷ rest))) (suc (length later))
    ⊎ (IsReadFault (info_code (first_fault (r ∷ rest))) × (length (ok_prefix (r ∷ rest)) < suc (length later)))) [
      | Ok word ↦ λ _. elim (read-shape cells later) [
        | inl all ↦ inl (all.0, ap suc all.1)
        | inr some ↦ inr (some.0, omega (arith, some.1))
      ]
      | Err fault ↦ λ is. inr (read_cell-fault (cell_at cells address) fault is, omega arith)
    ] refl

write-shape : (cells : CellMap) (entries : List (ℕ × ℕ))
    → AllDone (write_words cells entries).fault (write_words cells entries).done (length entries)
    ⊎ (IsWriteFault (info_code (write_words cells entries).fault) × ((write_words cells entries).done < length entries))
write-shape cells [] = inl (refl, refl)
write-shape cells (e ∷ es) =
    let writing : Result CellMap BusFault → Writing = λ r. write_on cells r (λ after. write_words after es) in
    elim (write_word cells e.0 e.1) as (λ (r : Result CellMap BusFault). write_word cells e.0 e.1 ≡ r
    → AllDone (writing r).fault (writing r).done (suc (length es))
    ⊎ (IsWriteFault (info_code (writing r).fault) × ((writing r).done < suc (length es)))) [
      | Ok after ↦ λ _. elim (write-shape after es) [
        | inl all ↦ inl (all.0, omega (arith, all.1))
        | inr some ↦ inr (some.0, omega (arith, some.1))
      ]
      | Err fault ↦ λ is. inr (write_cell-fault cells e.0 e.1 (cell_at cells e.0) fault is, omega arith)
    ] refl

fault_is_bus_fault : (fault : BusFault) → IsBusFault (fault_code fault)
fault_is_bus_fault ReadError = (lit≤ tt, lit≤ tt)
fault_is_bus_fault WriteError = (lit≤ tt, lit≤ tt)
fault_is_bus_fault ReadTimeout = (lit≤ tt, lit≤ tt)
fault_is_bus_fault WriteTimeout = (lit≤ tt, lit≤ tt)

bus_fault_fails : (code : ℕ) → IsBusFault code → eqb code SUCCESS ≡ false
bus_fault_fails code is = let past : 4 ≤ code = is.0 in grind (arith, nat_tests)

-- What an operation gives: all of it, or a fault after fewer words than asked. Either way it has the form of a reply.
pub record OpDone (op : Op) (code count values : ℕ) : Type 0 where
  pub success : code ≡ SUCCESS
  pub full : count ≡ op_count op
  pub carried : values ≡ values_done op

pub record OpFailed (op : Op) (code count values : ℕ) : Type 0 where
  pub failed : eqb code SUCCESS ≡ false
  pub fault : Fails op code count values
  pub small : count ≤ op_count op

pub record HasShape (op : Op) (code count values : ℕ) : Type 0 where
  pub outcome : OpDone op code count values ⊎ OpFailed op code count values
  pub form : HasForm (op_kind op) code count values

module _ (cells : CellMap) (op : Op) where
  reading-shape : (addresses : List ℕ) → length addresses ≡ op_count op → values_done op ≡ op_count op
      → ((op_kind op ≡ READ) ⊎ (op_kind op ≡ READ_PORT))
      → ((code count : ℕ) → IsReadFault code → count < op_count op → Fails op code count count)
      → HasShape op (info_code (of_reading cells addresses).fault) (of_reading cells addresses).count
      (length (of_reading cells addresses).values)
  reading-shape addresses many carried kind fails =
      let code = info_code (fault_of_reading cells addresses) in
      elim (read-shape cells addresses) [
        | inl all ↦ record {
          outcome = inl (record {
            success = all.0;
            full = all.1 ∙ many;
            carried = all.1 ∙ many
                ∙ sym carried;
          });
          form = inl (all.0, inl (kind, refl));
        }
        | inr some ↦
            let is : IsBusFault code =
            elim (some.0) [
              | inl h ↦ (omega (arith, h), omega (arith, h))
              | inr h ↦
                  (omega (arith, h), omega (arith, h))
            ] in
            let fewer : length (words_read cells addresses) < op_count op = omega (arith, some.1, many) in
            record {
              outcome = inr (record {
                failed = bus_fault_fails code is;
                fault = fails code (length (words_read cells addresses)) some.0 fewer;
                small = omega (arith, fewer);
              });
              form = inr (inl (is, inl (kind, refl)));
            }
      ]

  writing-shape : (entries : List (ℕ × ℕ)) → length entries ≡ op_count op → values_done op ≡ 0
      → ((op_kind op ≡ WRITE) ⊎ (op_kind op ≡ WRITE_PORT))
      → ((code count : ℕ) → IsWriteFault code → count < op_count op → Fails op code count 0)
      → HasShape op (info_code (write_words cells entries).fault) (write_words cells entries).done 0
  writing-shape entries many carried kind fails =
      let code = info_code (write_words cells entries).fault in
      elim (write-shape cells entries) [
        | inl all ↦ record {
          outcome = inl (record { success = all.0; full = all.1 ∙ many; carried = sym carried });
          form = inl (all.0, inr (inl (kind, refl)));
        }
        | inr some ↦
            let is : IsBusFault code =
            elim (some.0) [
              | inl h ↦ (omega (arith, h), omega (arith, h))
              | inr h ↦
                  (omega (arith, h), omega (arith, h))
            ] in
            let fewer : (write_words cells entries).done < op_count op = omega (arith, some.1, many) in
            record {
              outcome = inr (record {
                failed = bus_fault_fails code is;
                fault = fails code (write_words cells entries).done some.0 fewer;
                small = omega (arith, fewer);
              });
              form = inr (inl (is, inr (inl (kind, refl))));
            }
      ]

  modified-shape : (r : Result Modified BusFault) → op_count op ≡ 1 → values_done op ≡ 1
      → ((op_kind op ≡ RMW_BITS) ⊎ (op_kind op ≡ RMW_SUM))
      → ((fault : BusFault) → Fails op (fault_code fault) 0 0)
      → HasShape op (info_code (of_modifying cells r).fault) (of_modifying cells r).count
      (length (of_modifying cells r).values)
  modified-shape (Ok modified) count values kind fails = record {
    outcome = inl (record { success = refl; full = sym count; carried = sym values });
    form = inl (refl, inr (inr (kind, refl, refl)));
  }
  modified-shape (Err fault) count values kind fails = record {
    outcome = inr (record {
      failed = bus_fault_fails (fault_code fault) (fault_is_bus_fault fault);
      fault = fails fault;
      small = omega arith;
    });
    form = inr (inl (fault_is_bus_fault fault, inr (inr (kind, refl, refl))));
  }

pub shape_of : (cells : CellMap) (op : Op)
    → HasShape op (info_code (outcome cells op).fault) (outcome cells op).count (length (outcome cells op).values)
shape_of cells (Read base count) =
    reading-shape cells (Read base count) (range_with_len base count) (length-range_with_len base count) refl (inl refl)
    (λ code done fault fewer. (fault, fewer, refl))
shape_of cells (ReadPort base count) =
    reading-shape cells (ReadPort base count) (replicate count base) (length-replicate count base) refl (inr refl)
    (λ code done fault fewer. (fault, fewer, refl))
shape_of cells (Write base words) =
    writing-shape cells (Write base words) (enumerate_from base words) (length-enumerate_from base words) refl
    (inl refl) (λ code done fault fewer. (fault, fewer, refl))
shape_of cells (WritePort base words) =
    writing-shape cells (WritePort base words) (map (λ word. (base, word)) words)
    (length-map words (λ word. (base, word))) refl (inr refl) (λ code done fault fewer. (fault, fewer, refl))
shape_of cells (RmwBits base and_term or_term) =
    modified-shape cells (RmwBits base and_term or_term) (modify cells base (masked_word and_term or_term)) refl refl
    (inl refl) (λ fault. (fault_is_bus_fault fault, refl, refl))
shape_of cells (RmwSum base addend) =
    modified-shape cells (RmwSum base addend) (modify cells base (sum_word addend)) refl refl (inr refl) (λ fault.
    (fault_is_bus_fault fault, refl, refl))
