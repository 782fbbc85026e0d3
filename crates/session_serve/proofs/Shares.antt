-- What a thread takes along with a connection may go to it.
use Rattle.std.proofs.Common.{List, []}
use base.Shift.{Keyless}
use mir.Val.{Val}
use denote.RattleType.{Denots, RattleType}
use denote.Struct.Struct.{Struct}
use denote.Param.Send.{AllSend, struct_send}

-- the fields of a struct, or what a closure holds
pub fields_go : (fields : List RattleType) → AllSend fields → (d : Denots fields) (vs : List Val)
    → Keyless ((Struct (record { name = []; args = []; types = []; fields = fields })).own_val d vs)
fields_go fields go d vs = (struct_send (record { name = []; args = []; types = []; fields = fields }) go).owned d vs
