-- What is written of a queue.
-- Assumes nothing.
use Prim.Native.Nat.{ℕ}
use mathlib.Core.Path.{◌≡◌, refl}
use mathlib.Core.List.{[], ◌∷◌, ◌++◌, flat_map, append_assoc, append-nil}
use Rattle.number.specs.Numbers.{encode}
use Rattle.fields.specs.Fields.{encode_all}
use Rattle.fields.proofs.Tables.{length_tabulate}
use Rattle.fields_writer.specs.Pieces.{counted_bytes}
use Rattle.queue.specs.declared.Queue.{Queue}
use Rattle.queue.specs.Record.{kind, rows, weight_list, windows, kind_list}
use Rattle.queue.specs.Writing.{encode_window, settings_bytes, head_bytes, job_bytes, message}

module _ (q : Queue) where
  pub head_written : head_bytes q ≡ settings_bytes q ++ flat_map encode_all (rows q) ++ encode_all (weight_list q) ++ flat_map encode_window (windows q)
  unfolding head_bytes
  head_written = refl

  pub message_written : message q ≡ (0x51 ∷ 0x53 ∷ []) ++ encode 1 ++ head_bytes q ++ counted_bytes (kind_list q)
  unfolding message job_bytes counted_bytes
  message_written = rw (length_tabulate (kind q) 1 q.jobs)

-- four numbers in a row
pub four_written : (n g m s : ℕ) → encode_all (n ∷ g ∷ m ∷ s ∷ []) ≡ encode n ++ encode g ++ encode m ++ encode s
unfolding flat_map
four_written n g m s = simp (append-nil, append_assoc)
