-- What `load COUNT` writes: a function of the lines of its run. Profile.
use Rattle.std.specs.Prelude.{ℕ, ◌==◌, Bool, List, [], ◌∷◌, ◌++◌, length, sum, sum_by, codes}
use Rattle.std.specs.List.{flat_map}
use Rattle.std.specs.Fmt.{decimal}
use Rattle.ipb_base.specs.Numbers.{in_64_bits}
use Rattle.transcript.specs.declared.line.OpResult.{OpResult}
use Rattle.transcript.specs.declared.line.OpResult.TheVariants.{Value, Done, Was, Error, Skipped, TimedOut, Late}
use Rattle.transcript.specs.declared.line.OpResult.TheVariants.{Unsent, LinkLost, Garbled, Denied}
use Rattle.transcript.specs.declared.line.OpLine.{OpLine}
use Rattle.transcript.specs.Lines.{Transcript}
use Rattle.transcript.specs.Shown.{places_told}
use Rattle.load_run.specs.declared.summary.Summary.{Summary}

-- the word before, of an operation that was answered so in time
abbrev pub word_before : OpResult → List ℕ
word_before (Value words) = []
word_before Done = []
word_before (Was word) = word ∷ []
word_before (Error code after) = []
word_before Skipped = []
word_before (TimedOut rounds) = []
word_before (Late rounds answer) = []
word_before Unsent = []
word_before LinkLost = []
word_before Garbled = []
word_before (Denied rule) = []

-- the words of all lines that show one, client by client
abbrev pub words_of_client : List OpLine → List ℕ
words_of_client lines = flat_map (λ (line : OpLine). word_before line.result) lines

abbrev pub words_before : List (List OpLine) → List ℕ
words_before clients = flat_map words_of_client clients

-- How many lines show the word before, the sum of these words, and how many bodies were sent first to all boards. The
-- run of a generated session brings none of these numbers to the end of 64 bits.
abbrev pub summary_of : ℕ → Transcript → Summary
summary_of count transcript = record {
  count = count;
  done = in_64_bits (length (words_before transcript.clients));
  total = in_64_bits (sum (words_before transcript.clients));
  places = in_64_bits (sum_by places_told transcript.boards);
}

-- every operation was done: the status of a run is 0 then, and else 1
abbrev pub all_done : Summary → Bool
all_done summary = summary.done == summary.count

-- what was asked, and how many operations were done
abbrev pub done_text : Summary → List ℕ
done_text summary =
    codes "load " ++ (decimal summary.count ++ (codes "\ndone " ++ (decimal summary.done ++ codes "\n")))

-- the sum of the words, and how many bodies were sent first
abbrev pub total_text : Summary → List ℕ
total_text summary =
    codes "was total " ++ (decimal summary.total ++ (codes "\nplaces " ++ (decimal summary.places ++ codes "\n")))

-- four lines, each with its line feed
abbrev pub summary_text : Summary → List ℕ
summary_text summary = done_text summary ++ total_text summary
