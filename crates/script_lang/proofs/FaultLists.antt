-- The first of all faults of a document, in lists that are put together.
use Rattle.std.proofs.Common.{◌≡◌, List, [], ◌∷◌, ◌++◌, Some, slice_get, refl}
use Rattle.address_table.specs.declared.refusal.TableRefusal.TheVariants as table_refusal
use Rattle.script_lang.specs.declared.refusal.DocWhy.TheVariants.{NotToml, Shape, NoBoards, ManyBoards, ManyClients}
use Rattle.script_lang.specs.declared.refusal.DocWhy.TheVariants.{DuplicateBoard}
use Rattle.script_lang.specs.declared.refusal.SessionRefusal.{SessionRefusal}
use Rattle.script_lang.specs.declared.refusal.SessionRefusal.TheVariants as refusal
use Rattle.script_lang.specs.Document.{Fault, TellsFault}

first-of-front : (xs ys : List Fault) (f : Fault) → slice_get xs 0 ≡ Some f → slice_get (xs ++ ys) 0 ≡ Some f
first-of-front [] ys f h = cc
first-of-front (x ∷ xs) ys f h = h

-- what is first in the front is first in the whole
pub front_fault : (xs ys : List Fault) (r : SessionRefusal) → TellsFault xs r → TellsFault (xs ++ ys) r
front_fault xs ys (refusal.Document path NotToml) h = absurd h
front_fault xs ys (refusal.Document path Shape) h = first-of-front xs ys _ h
front_fault xs ys (refusal.Document path NoBoards) h = first-of-front xs ys _ h
front_fault xs ys (refusal.Document path ManyBoards) h = first-of-front xs ys _ h
front_fault xs ys (refusal.Document path ManyClients) h = first-of-front xs ys _ h
front_fault xs ys (refusal.Document path DuplicateBoard) h = first-of-front xs ys _ h
front_fault xs ys (refusal.Table name (table_refusal.At path why)) h = first-of-front xs ys _ h
front_fault xs ys (refusal.Table name table_refusal.NoMemory) h = absurd h
front_fault xs ys refusal.NoMemory h = tt

pub first_fault : (xs ys zs ws : List Fault) (r : SessionRefusal) → TellsFault xs r → TellsFault (xs ++ ys ++ zs ++ ws) r
first_fault xs ys zs ws r h = front_fault (xs ++ ys ++ zs) ws r (front_fault (xs ++ ys) zs r (front_fault xs ys r h))

pub second_fault : (xs ys zs ws : List Fault) (r : SessionRefusal) → xs ≡ [] → TellsFault ys r
    → TellsFault (xs ++ ys ++ zs ++ ws) r
second_fault xs ys zs ws r a h = rw a (front_fault (ys ++ zs) ws r (front_fault ys zs r h))

pub third_fault : (xs ys zs ws : List Fault) (r : SessionRefusal) → xs ≡ [] → ys ≡ [] → TellsFault zs r
    → TellsFault (xs ++ ys ++ zs ++ ws) r
third_fault xs ys zs ws r a b h = rw (a, b) (front_fault zs ws r h)

pub last_fault : (xs ys zs ws : List Fault) (r : SessionRefusal) → xs ≡ [] → ys ≡ [] → zs ≡ [] → TellsFault ws r
    → TellsFault (xs ++ ys ++ zs ++ ws) r
last_fault xs ys zs ws r a b c h = rw (a, b, c) h

pub no_faults : (xs ys zs ws : List Fault) → xs ≡ [] → ys ≡ [] → zs ≡ [] → ws ≡ [] → xs ++ ys ++ zs ++ ws ≡ []
no_faults xs ys zs ws a b c d = rw (a, b, c, d) refl
