use Rattle.std.proofs.Common.{List, sym, ap, ◌∙◌, subst}
use Rattle.config_store.specs.declared.state.StateEntry.{StateEntry}
use Rattle.config_store.specs.Kept.{KeptRegister, indexed_boards, kept_of}
use Rattle.config_laws.specs.Applied.{AreFor}
use Rattle.config_laws.specs.Saved.{saved_text}
use Rattle.config_laws.proofs.Whole.{kept_same, saved_for, text_same}
use Rattle.config_laws.proofs.applying.what_was_saved_is_written_again.Goals as goal

pub returns : goal.returns
returns c = λ settings specs others indexes steps runs links state entries called saved among.
    λ are own names fields none order values is tell made words can status.
    let kept = kept_of (indexed_boards specs indexes) in
    let (shown, applied, all, text) = c.an_applied_text_is_that_of_given_and_opening_values.ensures settings specs indexes
    steps runs links state are own names fields none order values is tell made words can status in
    let each = subst (λ (rs : List KeptRegister). AreFor rs entries) (sym (kept_same specs others indexes called))
    (saved_for others (kept_of (indexed_boards others indexes)) entries saved) in
    let same = c.a_whole_configuration_is_shown_as_it_was_given.ensures specs kept state entries shown order applied each
    among in
    text ∙ ap (λ (es : List StateEntry). saved_text specs es) same ∙ text_same specs others entries called
