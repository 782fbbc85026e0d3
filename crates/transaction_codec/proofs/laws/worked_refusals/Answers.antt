use Rattle.std.proofs.Common.{[], ◌∷◌, refl, lit<}
use Rattle.transaction_codec.specs.declared.request.Request.{Request}
use Rattle.transaction_codec.specs.declared.request.Op.TheVariants.{Read}
use Rattle.transaction_codec.specs.Request.{request_at}
use Rattle.transaction_codec.proofs.Formats.{requests_format}
use Rattle.transaction_codec.proofs.ReadSoFar.{fault_after}
use Rattle.transaction_codec.proofs.laws.worked_refusals.Goals as goal

pub returns-clause-count : goal.returns-clause-count
unfolding request_at
returns-clause-count c = fault_after requests_format [] (0x2000024f ∷ 8 ∷ 0 ∷ 0 ∷ []) _ tt (lit< tt) refl

pub returns-clause-version : goal.returns-clause-version
unfolding request_at
returns-clause-version c = fault_after requests_format [] (0x3000010f ∷ 0 ∷ []) _ tt (lit< tt) refl

pub returns-clause-short : goal.returns-clause-short
unfolding request_at
returns-clause-short c = fault_after requests_format [] (0x2000010f ∷ []) _ tt (lit< tt) refl

pub returns-clause-kind : goal.returns-clause-kind
unfolding request_at
returns-clause-kind c = fault_after requests_format [] (0x2000016f ∷ 0 ∷ []) _ tt (lit< tt) refl

pub returns-clause-code : goal.returns-clause-code
unfolding request_at
returns-clause-code c = fault_after requests_format [] (0x20000100 ∷ 0 ∷ []) _ tt (lit< tt) refl

first : Request
first = record { tid = 0; op = Read 4 1 }

pub returns-clause-second : goal.returns-clause-second
unfolding request_at first
returns-clause-second c =
    fault_after requests_format (first ∷ []) (0x2001041f ∷ 8 ∷ 1 ∷ []) _ (
      record {
        tid = lit< tt;
        count = lit< tt;
        words =
            (lit< tt, tt);
      },
      tt,
    ) (lit< tt) refl
