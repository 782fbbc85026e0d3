use Rattle.std.proofs.Common.{◌∙◌}
use Rattle.script_lang.proofs.MaskedValues.{told}
use Rattle.config_store.proofs.checking.fits.Goals as goal

pub returns : goal.returns
returns c =
    c.is_ok.ensures.value ∙ told c.args.mask c.args.value c.terms.result c.terms.ensures.fits c.terms.ensures.outside
