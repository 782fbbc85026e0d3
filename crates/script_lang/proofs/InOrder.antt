-- The first fault of a document, where the parts before it have none.
use Rattle.std.proofs.Common.{◌≡◌, [], Result, Ok, Err, IfErr}
use Rattle.toml.specs.Data.{Members}
use Rattle.script_lang.specs.declared.refusal.SessionRefusal.{SessionRefusal}
use Rattle.script_lang.specs.Document.{TellsFault, faults, misfits, size_faults, duplicates, tables_faults}
use Rattle.script_lang.specs.Sessions.{boards_of, format_of, tables_of}
use Rattle.script_lang.proofs.FaultLists.{first_fault, last_fault, no_faults, second_fault, third_fault}

pub at_shape : {X : Type 0} (document : Members) (r : Result X SessionRefusal) → IfErr r (TellsFault (misfits document))
    → IfErr r (TellsFault (faults document))
at_shape document (Ok x) told = tt
at_shape document (Err r) told =
    first_fault (misfits document) (size_faults document) (duplicates [] 0 (boards_of document))
    (tables_faults (format_of document) (tables_of document)) r told

pub at_counts : {X : Type 0} (document : Members) → misfits document ≡ [] → (r : Result X SessionRefusal)
    → IfErr r (TellsFault (size_faults document)) → IfErr r (TellsFault (faults document))
at_counts document shaped (Ok x) told = tt
at_counts document shaped (Err r) told =
    second_fault (misfits document) (size_faults document) (duplicates [] 0 (boards_of document))
    (tables_faults (format_of document) (tables_of document)) r shaped told

pub all_faultless : (document : Members) → misfits document ≡ [] → size_faults document ≡ []
    → duplicates [] 0 (boards_of document) ≡ [] → tables_faults (format_of document) (tables_of document) ≡ [] → faults document ≡ []
all_faultless document =
    no_faults (misfits document) (size_faults document) (duplicates [] 0 (boards_of document))
    (tables_faults (format_of document) (tables_of document))

module _ (document : Members) (shaped : misfits document ≡ []) (sized : size_faults document ≡ []) where
  pub at_names : {X : Type 0} (r : Result X SessionRefusal) → IfErr r (TellsFault (duplicates [] 0 (boards_of document)))
      → IfErr r (TellsFault (faults document))
  at_names (Ok x) told = tt
  at_names (Err r) told =
      third_fault (misfits document) (size_faults document) (duplicates [] 0 (boards_of document))
      (tables_faults (format_of document) (tables_of document)) r shaped sized told

  pub at_tables : duplicates [] 0 (boards_of document) ≡ [] → (r : SessionRefusal)
      → TellsFault (tables_faults (format_of document) (tables_of document)) r → TellsFault (faults document) r
  at_tables named r told =
      last_fault (misfits document) (size_faults document) (duplicates [] 0 (boards_of document))
      (tables_faults (format_of document) (tables_of document)) r shaped sized named told
