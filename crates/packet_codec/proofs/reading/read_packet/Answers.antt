use Rattle.packet_codec.proofs.PacketLemmas.{found, only, empty, ragged, long, header, kind, no_memory}
use Rattle.packet_codec.proofs.reading.read_packet.Goals as goal

pub returns-clause-found : goal.returns-clause-found
returns-clause-found c = found c.args.bytes.now c.type_inv.bytes c.read_by_offsets.result c.read_by_offsets.ensures

pub returns-clause-only : goal.returns-clause-only
returns-clause-only c = only c.args.bytes.now c.type_inv.bytes c.read_by_offsets.result c.read_by_offsets.ensures

pub returns-clause-empty : goal.returns-clause-empty
returns-clause-empty c = empty c.args.bytes.now c.type_inv.bytes c.read_by_offsets.result c.read_by_offsets.ensures

pub returns-clause-ragged : goal.returns-clause-ragged
returns-clause-ragged c = ragged c.args.bytes.now c.type_inv.bytes c.read_by_offsets.result c.read_by_offsets.ensures

pub returns-clause-long : goal.returns-clause-long
returns-clause-long c = long c.args.bytes.now c.type_inv.bytes c.read_by_offsets.result c.read_by_offsets.ensures

pub returns-clause-header : goal.returns-clause-header
returns-clause-header c = header c.args.bytes.now c.type_inv.bytes c.read_by_offsets.result c.read_by_offsets.ensures

pub returns-clause-kind : goal.returns-clause-kind
returns-clause-kind c = kind c.args.bytes.now c.type_inv.bytes c.read_by_offsets.result c.read_by_offsets.ensures

pub returns-clause-no_memory : goal.returns-clause-no_memory
returns-clause-no_memory c = no_memory c.args.bytes.now c.type_inv.bytes c.read_by_offsets.result
    c.read_by_offsets.ensures
