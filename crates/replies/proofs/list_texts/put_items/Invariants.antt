-- `replies::list_texts::put_items`: after so many turns the row holds so many items, and past them what it held. Assumes nothing.
use mathlib.Core.Path.{◌≡◌}
use Prim.Native.Nat.{◌+◌, ◌*◌, ◌≤◌}
use lib.ListN.{length, drop}
use Rattle.std.specs.Iterator.Adapters.{enumerate_source, enumerate_count, take_source, take_count}
use Rattle.std.specs.Slice.Iter.{chunks_exact_rest, chunks_exact_size}
use Rattle.rows.specs.Row.{over}
use Rattle.texts.specs.Text.{filled, text_room}
use Rattle.replies.specs.LineText.{items_of}
use Rattle.replies.proofs.list_texts.put_items.Given as goal

abbrev pub invariant-loop-i : goal.invariant-loop-i
invariant-loop-i l = record {
  goes : (goal.iterator-loop-i).can_next l.i-iterator × (goal.iterator-loop-i).is_finite l.i-iterator;
  counted : enumerate_count l.i-iterator + take_count (enumerate_source l.i-iterator) ≡ l.count;
  size : chunks_exact_size (take_source (enumerate_source l.i-iterator)) ≡ l.width;
  left : chunks_exact_rest (take_source (enumerate_source l.i-iterator)) ≡ drop (l.width * enumerate_count l.i-iterator) l.numbers;
  few : l.used ≤ text_room l.item * enumerate_count l.i-iterator;
  room : l.used + 100 ≤ length l.initial.row;
  used : l.used ≡ length (filled (items_of l.item (enumerate_count l.i-iterator)) l.numbers);
  row : l.row ≡ over (filled (items_of l.item (enumerate_count l.i-iterator)) l.numbers) l.initial.row;
}
