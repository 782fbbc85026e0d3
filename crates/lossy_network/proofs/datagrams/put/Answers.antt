use Rattle.std.proofs.Common.{rules, ◌≡◌, ◌∙◌, ◌+◌, ◌++◌, ap, length, List, ℕ}
use Rattle.lossy_network.specs.declared.datagrams.Entry.{Entry}
use Rattle.lossy_network.specs.Store.{stored_bytes}
use Rattle.lossy_network.proofs.Store.{stored_more}
use Rattle.lossy_network.proofs.datagrams.put.Goals as goal

pub returns-clause-put : goal.returns-clause-put
returns-clause-put c =
    let old = c.args.bytes.now.items in
    let more = c.args.datagram.now in
    let entry : Entry =
    record { direction = c.args.direction; birth = c.args.birth; start = c.len-start.result; end = c.len-end.result } in
    let bytes : c.extend_from_slice.new.self.items ≡ old ++ more = search rules in
    let starts : c.len-start.result ≡ length old = search rules in
    let ends : c.len-end.result ≡ length old + length more = search rules in
    ap (λ (b : List ℕ). stored_bytes b c.push_reserved.new.self.items) bytes
    ∙ (ap (stored_bytes (old ++ more)) c.push_reserved.ensures.items
    ∙ stored_more old more c.args.entries.now.items entry c.requires.within starts ends)
