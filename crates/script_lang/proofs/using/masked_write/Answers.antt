use Rattle.script_lang.proofs.MaskedValues.{has_terms}
use Rattle.script_lang.proofs.using.masked_write.Goals as goal

pub unwrap-and_term-requires : goal.unwrap-and_term-requires
unwrap-and_term-requires c = has_terms c.args.mask c.args.value c.terms.result c.requires.fits c.terms.ensures.outside
