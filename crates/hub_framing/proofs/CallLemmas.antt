-- Whole lives of a framer, from any bytes that it held before.
use Rattle.std.proofs.Common.{◌≡◌, ℕ, List, [], ◌∷◌, ◌++◌, sym, ap, ◌∙◌, append_assoc, append-nil}
use Rattle.std.specs.List.{AllByRecursion}
use Rattle.hub_framing.specs.Frames.{IsFrame, IsFrameStream, frame_bytes, frames_bytes}
use Rattle.hub_framing.specs.Calls.{FramerCall, Feed, HandOut, Steps, fed_bytes, handed_out}
use Rattle.hub_framing.proofs.FrameLemmas.{one_reading}

pub each_is_a_frame : (calls : List FramerCall) (old new : List ℕ) → Steps calls old new
    → AllByRecursion IsFrame (handed_out calls)
each_is_a_frame [] old new steps = tt
each_is_a_frame (Feed piece ∷ calls) old new (between, step, steps) = each_is_a_frame calls between new steps
each_is_a_frame (HandOut frame ∷ calls) old new (between, step, steps) =
    (step.0, each_is_a_frame calls between new steps)

-- what was held and what was fed is what was handed out and what is held
pub all_is_there : (calls : List FramerCall) (old new : List ℕ) → Steps calls old new
    → old ++ fed_bytes calls ≡ frames_bytes (handed_out calls) ++ new
all_is_there [] old new steps = append-nil old ∙ sym steps
all_is_there (Feed piece ∷ calls) old new (between, step, steps) =
    sym (append_assoc old piece (fed_bytes calls)) ∙ ap (λ (t : List ℕ). t ++ fed_bytes calls) (sym step)
    ∙ all_is_there calls between new steps
all_is_there (HandOut frame ∷ calls) old new (between, step, steps) =
    ap (λ (t : List ℕ). t ++ fed_bytes calls) step.1 ∙ append_assoc (frame_bytes frame) between (fed_bytes calls)
    ∙ ap (λ (t : List ℕ). frame_bytes frame ++ t) (all_is_there calls between new steps)
    ∙ sym (append_assoc (frame_bytes frame) (frames_bytes (handed_out calls)) new)

stream_of : (calls : List FramerCall) (held : List ℕ) → Steps calls [] held → IsFrameStream held [] held
    → IsFrameStream (fed_bytes calls) (handed_out calls) held
stream_of calls held steps rest = record {
  whole = all_is_there calls [] held steps;
  each = each_is_a_frame calls [] held steps;
  no_more = rest.no_more;
}

pub same_frames : (calls others : List FramerCall) (held left : List ℕ) → Steps calls [] held → Steps others [] left
    → fed_bytes calls ≡ fed_bytes others → IsFrameStream held [] held → IsFrameStream left [] left
    → (handed_out calls ≡ handed_out others) × (held ≡ left)
same_frames calls others held left steps more same rest also =
    let other = stream_of others left more also in
    one_reading (fed_bytes calls) (handed_out calls) (handed_out others) held left (stream_of calls held steps rest)
    (record { whole = same ∙ other.whole; each = other.each; no_more = other.no_more })
