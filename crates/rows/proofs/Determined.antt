-- What it is for a contract to determine its outcome, and how a reply is determined by what it says.
-- Assumes nothing.
use mathlib.Core.List.{List}
use mathlib.Core.Path.{◌≡◌, ◌∙◌, refl, sym, ap}
use Prim.Native.Nat.{ℕ}
use contract.Lifetimes.{Lfts}
use borrow.Fn.Kinds.{ParamKind, ResultKind, Out, Dens, res_t, ended_of}
use denote.Triple.Clauses.{AtExit}
use Rattle.std.specs.Prelude.{Result, Ok, Err, if◌then◌else◌, ◌==◌}
use Rattle.rows.specs.Reply.{Reply, answer, refused, number_of, answer_said}
use Rattle.rows.specs.declared.Refusal.{Refusal}
use Rattle.rows.specs.declared.Refusal.TheVariants.{NoYear, Outside, NoDay, ShortRow, BadLine}

-- two replies that meet the contract are equal. The contract is the `Post` that is read off the source, so a weaker `ensures` there
-- fails here
abbrev pub OneReply : {n : ℕ} (ps : List (ParamKind n)) (r : ResultKind n) → Out n ps r → Type 0
OneReply {n} ps r Post =
    (κs : Lfts n) (a : Dens κs ps) (x y : (res_t r κs).Denot) (s t : AtExit (ended_of n ps r) κs)
    → Post κs a x s
    → Post κs a y t
    → x ≡ y

-- and, where a row of numbers or of anything else is lent, what it holds at the end is equal too
abbrev pub OneOutcome : {n : ℕ} {A : Type 0} (ps : List (ParamKind n)) (r : ResultKind n)
    → Out n ps r
    → ((κs : Lfts n) → AtExit (ended_of n ps r) κs → List A)
    → Type 0
OneOutcome {n} ps r Post row =
    (κs : Lfts n) (a : Dens κs ps) (x y : (res_t r κs).Denot) (s t : AtExit (ended_of n ps r) κs)
    → Post κs a x s
    → Post κs a y t
    → (x ≡ y) × (row κs s ≡ row κs t)

-- a reply that can be read back off what it says is determined by that
pub read_back : {A B : Type 0} (said : A → B) (meant : B → A)
    → ((a : A) → meant (said a) ≡ a)
    → (x y : A) (z : B) → said x ≡ z → said y ≡ z → x ≡ y
read_back said meant back x y z p q = sym (back x) ∙ ap meant (p ∙ sym q) ∙ back y

-- the refusal of a number; a number that no refusal has stands for the last
pub refusal_of : ℕ → Refusal
refusal_of n = if n == 1 then NoYear else if n == 2 then Outside else if n == 3 then NoDay else if n == 4 then ShortRow else BadLine

pub refusal_back : (r : Refusal) → refusal_of (number_of r) ≡ r
unfolding refusal_of
refusal_back NoYear = refl
refusal_back Outside = refl
refusal_back NoDay = refl
refusal_back ShortRow = refl
refusal_back BadLine = refl

pub answer_meant : {A : Type 0} → Reply A → Result A Refusal
answer_meant (answer it) = Ok it
answer_meant (refused k) = Err (refusal_of k)

pub answer_back : {A : Type 0} (a : Result A Refusal) → answer_meant (answer_said a) ≡ a
unfolding answer_meant
answer_back (Ok it) = refl
answer_back (Err r) = ap Err (refusal_back r)

pub one_answer : {A : Type 0} (x y : Result A Refusal) (z : Reply A) → answer_said x ≡ z → answer_said y ≡ z → x ≡ y
one_answer = read_back answer_said answer_meant answer_back
