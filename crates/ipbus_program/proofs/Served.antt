-- Where no pair came, each that came was served and went back.
use Rattle.std.proofs.Common.{List, [], sym, subst}
use Rattle.ipb_outside.specs.Pairs.{PairReport}
use Rattle.session_serve.specs.Serving.{AreBack}
use Rattle.session_serve.proofs.Standing.{none_served}
use Rattle.command_terms.specs.Outside.{NoneCame}

pub none_as_served : (came back : List PairReport) → NoneCame came back → AreBack came back
none_as_served came back (none, none_back) =
    subst (λ all. AreBack all back) (sym none) (subst (λ all. AreBack [] all) (sym none_back) none_served)
