-- `replies::list_texts::put_items` meets its contract: after i turns the row holds i of them, and past them what it held. Assumes nothing.
use mathlib.Core.List.{List, [], ◌∷◌, ◌++◌}
use mathlib.Core.Path.{◌≡◌, ◌∙◌, refl, sym, ap}
use Prim.Native.Nat.{ℕ, ◌+◌, ◌*◌, ◌≤◌, ◌<◌}
use native.Mathlib.Omega.{arith}
use borrow.Author.Rules.{rules}
use lib.ListN.{length, take, drop, length-append, length-take, length-drop}
use native.Mathlib.Nat.{mul-zero}
use Rattle.std.proofs.Common.{inl, inr, eq-zero-or-pos}
use Rattle.std.specs.Iterator.Adapters.{enumerate_source, enumerate_count, take_source, take_count}
use Rattle.std.specs.Slice.Iter.{chunks_exact_rest}
use Rattle.rows.specs.Row.{over}
use Rattle.rows.proofs.Row.{rest_from, put, grow}
use Rattle.texts.specs.Text.{filled, text_room}
use Rattle.replies.specs.LineText.{item_at, items_of}
use Rattle.replies.specs.ListText.{items_text}
use Rattle.replies.proofs.ListTextLaws.{told_so, own_item, next_item, one_more, item_more, items_ended}
use Rattle.replies.proofs.list_texts.put_items.Goals as goal

pub loop-i-init : goal.loop-i-init
unfolding over filled items_of
loop-i-init c =
    let it = c.into_iter-i-iterator.result in
    let none : enumerate_count it ≡ 0 = search rules in
    let all : chunks_exact_rest (take_source (enumerate_source it)) ≡ c.args.numbers.now = search rules in
    record {
      goes = search rules;
      counted = search rules;
      size = search rules;
      left = rw (none, mul-zero) all;
      few = omega arith;
      room = omega arith;
      used = rw none refl;
      row = rw none refl;
    }

pub overflow_add-used : goal.overflow_add-used
overflow_add-used c =
    let less : enumerate_count c.loop-i.i-iterator < c.args.count = omega (arith, c.in-Some.ensures.steps.0.1) in
    omega (arith, next_item (text_room c.args.item.now) (enumerate_count c.loop-i.i-iterator) c.args.count less)

pub put_item-used-requires : goal.put_item-used-requires
put_item-used-requires c =
    let less : enumerate_count c.loop-i.i-iterator < c.args.count = omega (arith, c.in-Some.ensures.steps.0.1) in
    let room = next_item (text_room c.args.item.now) (enumerate_count c.loop-i.i-iterator) c.args.count less in
    (c.requires.0, simp (length-take, length-drop) (omega (arith, room)))

pub loop-i-preserved : goal.loop-i-preserved
loop-i-preserved c =
    let item = c.args.item.now in
    let ns = c.args.numbers.now in
    let w : ℕ = c.args.width in
    let used : ℕ = c.loop-i.used in
    let i : ℕ = enumerate_count c.loop-i.i-iterator in
    let done = filled (items_of item i) ns in
    let next = filled (item_at item i) (drop (w * i) ns) in
    let s = c.in-Some.ensures.steps in
    let less : i < c.args.count = omega arith in
    let count : enumerate_count c.next.new.self ≡ i + 1 = omega arith in
    let fits = next_item (text_room item) i c.args.count less in
    let long : length c.in-Some.own.now ≡ w = omega arith in
    let own = own_item item w c.requires.2 i ns c.in-Some.own.now _ (sym c.loop-i.invariant.left ∙ s.0.0.1.0) long in
    let put =
    told_so (rest_from used c.loop-i.row) (ap (λ (j : ℕ). filled (item_at item j) c.in-Some.own.now) s.1 ∙ own.0) (c.put_item-used.ensures.value, c.put_item-used.ensures.writes) in
    let more : filled (items_of item (i + 1)) ns ≡ done ++ next = item_more item w c.requires.2 i ns in
    record {
      goes = search rules;
      counted = omega arith;
      size = omega arith;
      left = rw count own.1;
      few = rw count (omega (arith, c.put_item-used.ensures.within, one_more (text_room item) i));
      room = omega (arith, c.put_item-used.ensures.within, c.requires.4, fits);
      used = rw count (omega (arith, c.loop-i.invariant.used, put.0, ap length more, length-append done next));
      row = rw count (grow done next c.args.row.now c.loop-i.row c.put_item-used.new.row used c.loop-i.invariant.row (sym c.loop-i.invariant.used) put.1 ∙ ap (λ (l : List ℕ). over l c.args.row.now) (sym more));
    }

module _ (w i left count : ℕ) (ns rest : List ℕ) (counted : i + left ≡ count) (all : rest ≡ drop (w * i) ns) (fits : w * count ≤ length ns)
    (short : 0 < left → length rest < w) where
  all_taken : i ≡ count
  all_taken =
      elim (eq-zero-or-pos left) [
        | inl e ↦ omega arith
        | inr h ↦ absurd (omega (arith, short h, ap length all, length-drop (w * i) ns, next_item w i count (omega arith)))
      ]

pub returns : goal.returns
returns c =
    let item = c.args.item.now in
    let ns = c.args.numbers.now in
    let w : ℕ = c.args.width in
    let done = filled (items_of item (enumerate_count c.loop-i.i-iterator)) ns in
    let all : enumerate_count c.loop-i.i-iterator ≡ c.args.count =
    all_taken w (enumerate_count c.loop-i.i-iterator) (take_count (enumerate_source c.loop-i.i-iterator)) c.args.count ns _ c.loop-i.invariant.counted c.loop-i.invariant.left c.requires.3
    (λ h. omega (arith, (c.in-None.ensures.steps.0 h).1.0)) in
    let line : done ++ (10 ∷ []) ≡ items_text item w (take (w * c.args.count) ns) = rw all (items_ended item w c.requires.2 c.args.count ns c.requires.1 (omega arith) c.requires.3) in
    let told = told_so {r = c.loop-i.used + 1} c.args.row.now line (
      omega (arith, c.loop-i.invariant.used, length-append done (10 ∷ [])),
      put done c.args.row.now c.loop-i.row 10 c.loop-i.used c.loop-i.invariant.row (sym c.loop-i.invariant.used) (omega arith),
    ) in
    record { value = told.0; writes = told.1 }
