use Rattle.std.proofs.Common.{◌≡◌, sym, ap, ◌∙◌, subst}
use Rattle.std.proofs.lemmas.Option.{same_Some}
use Rattle.toml.specs.Data.{Data, Members, get_member, member, no_members}
use Rattle.config_store.specs.States.{state_entries}
use Rattle.config_laws.specs.Applied.{AreAmong}
use Rattle.config_laws.proofs.TextNodes.{state_key}
use Rattle.config_laws.proofs.reading_back.a_saved_text_is_written_again.Goals as goal

pub returns : goal.returns
returns c = λ settings specs others indexes steps runs links entries document value called saved can parsed found.
    λ are own names fields none order values is tell made words able status.
    let back = c.a_text_of_values_is_read_back.ensures others entries can in
    let same : document ≡ member state_key back.0 no_members =
    same_Some document (member state_key back.0 no_members) (sym parsed ∙ back.1) in
    let state : value ≡ back.0 =
    same_Some value back.0 (sym found ∙ ap (λ (d : Members). get_member state_key d) same) in
    let among : AreAmong entries (state_entries value) =
    subst (λ (d : Data). AreAmong entries (state_entries d)) (sym state) back.2 in
    c.what_was_saved_is_written_again.ensures settings specs others indexes steps runs links (state_entries value) entries
    called saved among are own names fields none order values is tell made words able status
