-- How replies are printed: the answer lines.
use Rattle.std.specs.Prelude.{ℕ, ◌+◌, List, [], ◌∷◌, ◌++◌, Bool, codes, if◌then◌else◌}
use Rattle.std.specs.Fmt.{decimal}
use Rattle.hex.specs.Hex.{encode_lower}
use Rattle.looks.specs.declared.refusal.Refusal.{Refusal}
use Rattle.looks.specs.Refusal.{number_of}
use Rattle.texts.specs.declared.took.Took.{Took}
use Rattle.texts.specs.declared.took.Took.TheVariants.{Taken, Repeat, Waits}
use Rattle.text_chunks.specs.declared.unpacked.Unpacked.{Unpacked}
use Rattle.machine.specs.Events.{Reply, done, forgot, found, merges, not_found, opens, prints, refuses, sends, settles}
use Rattle.machine.specs.Events.{stops, takes, unpacks, unpacks_first}
use Rattle.machine.specs.Printing.{line}

-- the k-th message of the run goes out
unfoldable pub send_line : ℕ → List ℕ → List ℕ
send_line k message = line (codes "send m" ++ decimal k ++ 32 ∷ encode_lower message)

-- a line for each message, numbered on from those that were sent before
abbrev pub send_lines : ℕ → List (List ℕ) → List ℕ
send_lines k [] = []
send_lines k (message ∷ messages) = send_line (k + 1) message ++ send_lines (k + 1) messages

-- all of an edit was done
abbrev pub ok_line : List ℕ
ok_line = line (codes "ok")

-- two counts after a word, and whether a draining was stopped
abbrev pub counts_line : (word : List ℕ) → (first second : ℕ) → (stopped : Bool) → List ℕ
counts_line word first second stopped =
    line (word ++ decimal first ++ 32 ∷ decimal second ++ (if stopped then codes " stopped" else []))

-- a message was taken in, with how many that waited; or it was held already; or it waits
abbrev pub took_line : Took → List ℕ
took_line (Taken drained dropped stopped) = counts_line (codes "taken ") drained dropped stopped
took_line Repeat = line (codes "repeat")
took_line Waits = line (codes "waits")

-- a chunk was handed in: how many operations were taken in, how many are known, and how many wait now
abbrev pub unpacked_line : Unpacked → List ℕ
unpacked_line counts =
    codes "unpacked " ++ decimal counts.taken ++ counts_line (codes " ") counts.known counts.waiting counts.stopped

-- the room was drained
abbrev pub settled_line : (drained dropped : ℕ) → (stopped : Bool) → List ℕ
settled_line drained dropped stopped = counts_line (codes "settled ") drained dropped stopped

-- so many operations of another site were taken in
abbrev pub merged_line : ℕ → List ℕ
merged_line count = line (codes "merged " ++ decimal count)

-- nothing was done
abbrev pub refused_line : Refusal → List ℕ
refused_line why = line (codes "refused " ++ decimal (number_of why))

-- an edit's first operations stand
abbrev pub partial_line : ℕ → Refusal → List ℕ
partial_line count why = line (codes "partial " ++ decimal count ++ 32 ∷ decimal (number_of why))

-- a viewer was opened
abbrev pub opened_line : (viewer : ℕ) → List ℕ
opened_line viewer = line (codes "viewer " ++ decimal viewer)

-- the lines of a reply, where k messages were sent before: a row for each
abbrev pub reply_lines : ℕ → Reply → List ℕ
reply_lines k (sends messages) = send_lines k messages ++ ok_line
reply_lines k (takes took) = took_line took
reply_lines k (unpacks counts) = unpacked_line counts
reply_lines k (settles drained dropped stopped) = settled_line drained dropped stopped
reply_lines k (merges count) = merged_line count
reply_lines k (prints lines) = lines
reply_lines k (opens viewer) = opened_line viewer
reply_lines k (found pos) = line (codes "found " ++ decimal pos)
reply_lines k not_found = line (codes "not found")
reply_lines k (forgot count) = line (codes "forgot " ++ decimal count)
reply_lines k done = ok_line
reply_lines k (refuses why) = refused_line why
reply_lines k (stops messages count why) = send_lines k messages ++ partial_line count why
reply_lines k (unpacks_first count why) = partial_line count why
