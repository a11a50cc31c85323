-- Each contract determines its answer: the number, or the text that is handed out. Assumes nothing.
use mathlib.Core.List.{List}
use mathlib.Core.Path.{◌≡◌, ◌∙◌, sym}
use Prim.Native.Nat.{ℕ}
use contract.Lifetimes.{Lfts}
use borrow.Fn.Kinds.{ParamKind, ResultKind, Out, Dens, res_t, ended_of}
use denote.Triple.Clauses.{AtExit}
use Rattle.rows.proofs.Determined.{OneReply}
use Rattle.words.proofs as own

-- two parts of a text that meet the contract have the same bytes
abbrev OneText : {n : ℕ} (ps : List (ParamKind n)) (r : ResultKind n)
    → Out n ps r
    → ((κs : Lfts n) → (res_t r κs).Denot → List ℕ)
    → Type 0
OneText {n} ps r Post bytes =
    (κs : Lfts n) (a : Dens κs ps) (x y : (res_t r κs).Denot) (s t : AtExit (ended_of n ps r) κs)
    → Post κs a x s
    → Post κs a y t
    → bytes κs x ≡ bytes κs y

pub number_in_unique : OneReply own.decimals.number_in.Kinds.ps own.decimals.number_in.Kinds.r own.decimals.number_in.Reads.Post
number_in_unique κs a x y s t p q = p ∙ sym q

pub word_in_unique : OneText own.word_in.Kinds.ps own.word_in.Kinds.r own.word_in.Reads.Post (λ κs x. x.now)
word_in_unique κs a x y s t p q = p ∙ sym q

pub after_word_unique : OneText own.after_word.Kinds.ps own.after_word.Kinds.r own.after_word.Reads.Post (λ κs x. x.now)
after_word_unique κs a x y s t p q = p ∙ sym q

pub numbers_in_unique : OneReply own.numbers_in.Kinds.ps own.numbers_in.Kinds.r own.numbers_in.Reads.Post
numbers_in_unique κs a x y s t p q = p ∙ sym q

pub part_in_unique : OneText own.part_in.Kinds.ps own.part_in.Kinds.r own.part_in.Reads.Post (λ κs x. x.now)
part_in_unique κs a x y s t p q = p ∙ sym q

pub rest_in_unique : OneText own.rest_in.Kinds.ps own.rest_in.Kinds.r own.rest_in.Reads.Post (λ κs x. x.now)
rest_in_unique κs a x y s t p q = p ∙ sym q

pub place_of_unique : OneReply own.place_of.Kinds.ps own.place_of.Kinds.r own.place_of.Reads.Post
place_of_unique κs a x y s t p q = p ∙ sym q
