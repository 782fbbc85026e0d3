-- Calls of sockets, one behind the other.
use Rattle.std.proofs.Common.{◌≡◌, ℕ, List, [], ◌++◌, map, Option, Some, None, option_map, refl, sym, ap, ◌∙◌, append_assoc, append-nil}
use Rattle.std.proofs.lemmas.List.{map-append}
use Rattle.links.specs.Sockets.{AreCalls, Socket, SocketCall, after_calls}

pub no_calls : (told : Option Socket) → AreCalls [] told told
no_calls None = refl
no_calls (Some socket) = ap (λ (calls : List (ℕ × SocketCall)). Some (record socket { calls = calls }))
    (sym (append-nil socket.calls))

pub calls_joined : (xs ys : List SocketCall) (told : Option Socket)
    → option_map (after_calls ys) (option_map (after_calls xs) told) ≡ option_map (after_calls (xs ++ ys)) told
calls_joined xs ys None = refl
calls_joined xs ys (Some socket) =
    let at_wait : SocketCall → ℕ × SocketCall = λ call. (socket.wait, call) in
    ap (λ (calls : List (ℕ × SocketCall)). Some (record socket { calls = calls }))
    (append_assoc socket.calls (map at_wait xs) (map at_wait ys)
    ∙ ap (λ (later : List (ℕ × SocketCall)). socket.calls ++ later) (sym (map-append at_wait xs ys)))

pub more_calls : (xs ys : List SocketCall) (old mid new : Option Socket) → AreCalls xs old mid → AreCalls ys mid new
    → AreCalls (xs ++ ys) old new
more_calls xs ys old mid new first then' = then' ∙ ap (option_map (after_calls ys)) first ∙ calls_joined xs ys old
