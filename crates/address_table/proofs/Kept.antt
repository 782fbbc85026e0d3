-- What a node that breaks no rule has.
use Rattle.std.proofs.Common.{◌≡◌, ℕ, zero, suc, List, [], ◌∷◌, Bool, true, false, None, IsSome, codes, drop, refl}
use Rattle.std.proofs.lemmas.Bool.{and_parts}
use Rattle.toml.specs.Data.{Members}
use Rattle.address_table.specs.Keys.{text_at}
use Rattle.address_table.specs.Rules.{broken_rule, first_broken, rules, has_shape, has_texts}
use Rattle.address_table.specs.declared.refusal.TableWhy.{TableWhy}
use Rattle.address_table.specs.declared.refusal.TableWhy.TheVariants.{Shape}

-- no rule of a list is broken: the first is kept, and none of the rest is broken
pub first_kept : (why : TableWhy) (kept : Bool) (rest : List (TableWhy × Bool))
    → first_broken ((why, kept) ∷ rest) ≡ None → (kept ≡ true) × (first_broken rest ≡ None)
first_kept why true rest h = (refl, h)
first_kept why false rest h = cc

-- the rules after some
pub kept_rest : (i : ℕ) (rs : List (TableWhy × Bool)) → first_broken rs ≡ None → first_broken (drop i rs) ≡ None
kept_rest zero rs kept = kept
kept_rest (suc i) [] kept = kept
kept_rest (suc i) (rule ∷ rs) kept = kept_rest i rs (first_kept rule.0 rule.1 rs kept).1

pub kept-shape : (format : ℕ) (ms : Members) → broken_rule format ms ≡ None → has_shape ms ≡ true
unfolding broken_rule
kept-shape format ms kept = (first_kept Shape (has_shape ms) (drop 1 (rules format ms)) kept).0

pub kept-texts : (format : ℕ) (ms : Members) → broken_rule format ms ≡ None → has_texts ms ≡ true
unfolding has_shape
kept-texts format ms kept = (and_parts (has_texts ms) _ (and_parts _ _ (kept-shape format ms kept)).0).0

-- the texts of a node
pub record AreTexts (ms : Members) : Type 0 where
  pub id : IsSome (text_at (codes "id") ms)
  pub permission : IsSome (text_at (codes "permission") ms)
  pub mode : IsSome (text_at (codes "mode") ms)
  pub «module» : IsSome (text_at (codes "module") ms)
  pub tags : IsSome (text_at (codes "tags") ms)
  pub description : IsSome (text_at (codes "description") ms)

pub texts : (format : ℕ) (ms : Members) → broken_rule format ms ≡ None → AreTexts ms
unfolding has_texts
texts format ms kept =
    let (id, a) = and_parts _ _ (kept-texts format ms kept) in
    let (permission, b) = and_parts _ _ a in
    let (mode, c) = and_parts _ _ b in
    let (name, d) = and_parts _ _ c in
    let (tags, e) = and_parts _ _ d in
    record {
      id = id;
      permission = permission;
      mode = mode;
      «module» = name;
      tags = tags;
      description = (and_parts _ _ e).0;
    }
