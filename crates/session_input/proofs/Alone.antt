-- A document without a policy stands for what its whole table stands for.
use Rattle.std.proofs.Common.{◌≡◌, ℕ, List, [], ◌++◌, Option, Some, None, refl, sym, subst}
use Rattle.toml.specs.Data.{Data, Members, get_member}
use Rattle.script_lang.specs.Document.{IsSession, StandsFor, duplicates, faults, misfits, size_faults}
use Rattle.script_lang.specs.Keys.{document_keys}
use Rattle.script_lang.specs.Sessions.{boards_of}
use Rattle.script_lang.specs.Walk.{keys_faults, missing, shape_faults}
use Rattle.script_lang.specs.declared.session.Session.{Session}
use Rattle.script_lang.proofs.Kept.{kept_value, mapped_none, parts_none}
use Rattle.script_lang.proofs.TakenOut.{unchanged}
use Rattle.session_input.specs.Deserved.{IsPolicyOf, StandsForSession, policy_key, session_part}

no_value : (value : Option Data) → IsPolicyOf value None → value ≡ None
no_value None is = refl
no_value (Some value) is = absurd is

pub whole : (bytes : List ℕ) (session : Session) → StandsForSession bytes session None → StandsFor bytes session
whole bytes session stands =
    let document = stands.document in
    let same : session_part document ≡ document =
    unchanged policy_key document (no_value (get_member policy_key document) stands.has_policy) in
    (document, stands.toml, subst (λ (d : Members). IsSession d session) same stands.is_session)

-- a document of a session has no such key
no_such_key : (document : Members) (value : Option Data) → get_member policy_key document ≡ value
    → keys_faults document_keys document ≡ [] → value ≡ None
no_such_key document None is none = refl
no_such_key document (Some value) is none =
    let kept = kept_value document_keys policy_key document value none is in absurd cc

keys_kept : (document : Members) → faults document ≡ [] → keys_faults document_keys document ≡ []
keys_kept document none =
    let named = parts_none (misfits document ++ size_faults document ++ duplicates [] 0 (boards_of document)) _ none in
    let sized = parts_none (misfits document ++ size_faults document) _ named.0 in
    let counted = parts_none (misfits document) _ sized.0 in
    (parts_none (keys_faults document_keys document) (missing document_keys document)
    (mapped_none _ (shape_faults document) counted.0)).0

lacks_policy : (value : Option Data) → value ≡ None → IsPolicyOf value None
lacks_policy None is = tt
lacks_policy (Some value) is = absurd cc

pub beside : (bytes : List ℕ) (session : Session) → StandsFor bytes session → StandsForSession bytes session None
beside bytes session stands =
    let document = stands.0 in
    let none : get_member policy_key document ≡ None =
    no_such_key document (get_member policy_key document) refl (keys_kept document stands.2.faultless) in record {
      document = document;
      toml = stands.1;
      is_session = subst (λ (d : Members). IsSession d session) (sym (unchanged policy_key document none)) stands.2;
      has_policy = lacks_policy (get_member policy_key document) none;
    }
