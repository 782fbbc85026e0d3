use Rattle.std.proofs.Common.{rules, ◌≡◌, ◌≤◌, ◌++◌, ◌∷◌, ◌∙◌, ℕ, List, [], length, ap, sym, subst, arith}
use Rattle.packet_codec.specs.declared.packet.Packet.{Packet}
use Rattle.ipb_base.specs.Word.{AreWords}
use Rattle.ipb_base.proofs.WordLemmas.{AreWords-at}
use Rattle.transaction_codec.specs.Answer.{reply_room}
use Rattle.board_bus.specs.Cells.{CellMap}
use Rattle.board_bus.specs.Bodies.{Executed, run_body}
use Rattle.world_model.specs.declared.heard.LogEntry.{LogEntry}
use Rattle.world_model.specs.Messages.{control_packet}
use Rattle.circular_buffer.specs.Buffer.{Buffer, buffer}
use Rattle.std.specs.List.{AllByRecursion}
use Rattle.world_model.specs.Board.{Board, expected_identifier, held_replies, is_too_long, numbered_count, present_bus}
use Rattle.board_node.specs.View.{board_of, keeping, FitsMtu}
use Rattle.world_model.proofs.BoardLogs.{numbered_most, numbered_one_more, with_entry}
use Rattle.board_node.proofs.Logs.{bus_grows, fits, logged_grows, one_if, one_most}
use Rattle.board_node.proofs.Rings.{holds_more, keeping_all}
use Rattle.board_node.proofs.board.Board.execute.Goals as goal

pub overflow_add-self : goal.overflow_add-self
overflow_add-self c =
    let i = c.self.inside in
    omega (
      arith,
      c.self.invariant.count,
      numbered_most i.log.items,
      i.log.ok,
      i.log.small,
      c.from.ensures,
      one_most c.args.entry.numbered,
    )

pub invariant_of-self-2 : goal.invariant_of-self-2
invariant_of-self-2 c =
    let i = c.self.inside in
    let is = c.self.invariant in
    let b = board_of i in
    let e = c.args.entry in
    let id = c.args.id in
    let body : c.as_slice-body.result.now ≡ e.body = c.as_slice-body.ensures in
    let log : c.push_reserved.new.self.items ≡ i.log.items ++ e ∷ [] =
    c.push_reserved.ensures.items ∙ ap (λ (l : List LogEntry). l ++ e ∷ []) c.in_ok-reserve-3.ensures.items in
    let board : record {
      opening = i.opening;
      mtu = i.mtu;
      buffers = i.buffers;
      first = i.first;
      log =
          c.push_reserved.new.self.items;
    } ≡ with_entry b e =
    ap (λ (l : List LogEntry). record {
      opening = i.opening;
      mtu = i.mtu;
      buffers = i.buffers;
      first = i.first;
      log =
          l;
    }) log in
    let run : run_body i.bus c.as_slice-body.result.now ≡ run_body (present_bus b) e.body =
    ap (run_body i.bus) body ∙ ap (λ (x : CellMap). run_body x e.body) is.bus in
    let words : c.from_vec.result ≡ (run_body (present_bus b) e.body).reply =
    c.from_vec.ensures ∙ (c.execute_in_room.ensures.reply
    ∙ (ap (λ (ws : List ℕ). ws ++ (run_body i.bus c.as_slice-body.result.now).reply) (ap (λ v. v.items) c.replace-words.ensures.value ∙ (c.in_ok-reserve.ensures.items ∙ c.clear.ensures.items))
    ∙ ap (λ (x : Executed). x.reply) run)) in
    let reply : Packet = control_packet e.order id c.from_vec.result in
    let ring : c.keep_reply-gone.new.held ≡ keeping i.held e.numbered reply = c.keep_reply-gone.ensures in
    let held_now : keeping i.held e.numbered reply ≡ buffer (held_replies (with_entry b e)) i.buffers =
    ap (λ (w : List ℕ). keeping i.held e.numbered (control_packet e.order id w)) words
    ∙ holds_more b e id i.held is.kept (λ n. c.requires.id n ∙ ap expected_identifier (sym c.self.view_is)) in
    let able = fits b e.body (ap (λ (x : Board). is_too_long x e.body) c.self.view_is ∙ c.requires.fits) in
    let room : length c.from_vec.result ≤ reply_room e.body =
    omega (
      arith,
      c.a_reply_has_room.ensures (present_bus b) e.body,
      ap (λ (ws : List ℕ). length ws) words,
    ) in
    record {
      mtu = is.mtu;
      buffers = is.buffers;
      bus = c.execute_in_room.ensures.bus
          ∙ (ap (λ (x : Executed). x.cells) run ∙ (sym (bus_grows b e) ∙ ap present_bus (sym board)));
      count = omega (
        arith,
        is.count,
        numbered_one_more i.log.items e,
        ap numbered_count log,
        c.from.ensures,
        one_if e.numbered,
      );
      kept = ring ∙ held_now ∙ ap (λ (x : Board). buffer (held_replies x) i.buffers) (sym board);
      fit = subst (λ (r : Buffer Packet). AllByRecursion (FitsMtu i.mtu) r.items) (sym ring)
          (keeping_all (FitsMtu i.mtu) e.numbered i.held reply is.fit (omega (arith, room, able.1)));
      logged = logged_grows i.mtu i.log.items e c.push_reserved.new.self.items log is.logged
          (subst AreWords body (AreWords-at c.as_slice-body.result.now (λ k. search rules))) able;
    }
