-- The contract of `given` determines what is got; that of a read, by what it tells, what it took and what it left. Assumes nothing.
use Rattle.std.proofs.Common.{◌∙◌, sym, ap, subst}
use Rattle.std.proofs.Math.Seq.{take-append_seam, drop-append_seam}
use Rattle.std.proofs.lemmas.List.{length-take-le}
use Rattle.std.specs.Prelude.{◌≡◌, ℕ, List, length, take, drop, Option, Some, None, refl, Result, Ok, Err}
use Rattle.std.specs.Io.KnownBytes.{ReadConsumes}
use contract.Lifetimes.{Lfts}
use borrow.Fn.Kinds.{Dens, res_t, ended_of}
use denote.Triple.Clauses.{AtExit}
use mir.Syntax.{Dict}
use denote.RattleType.{RattleType}
use denote.Param.Laws.{Laws}
use Rattle.std.specs.declared.io.Read as Read
use Rattle.rows.proofs.Determined.{OneReply, read_back}
use Rattle.reads.specs.Given.{Given, bytes, failed, got_said, Within}
use Rattle.reads.specs.declared.ReadFailed.{ReadFailed}
use Rattle.reads.proofs.given.Kinds as goal
use Rattle.reads.proofs.given.Reads as given_reads
use Rattle.reads.proofs.read_once.Kinds as read_once_kinds
use Rattle.reads.proofs.read_once.Reads as read_once_reads

got_meant : Given → Result ℕ ReadFailed
got_meant (bytes n) = Ok n
got_meant failed = Err (record {})

got_back : (g : Result ℕ ReadFailed) → got_meant (got_said g) ≡ g
unfolding got_meant
got_back (Ok n) = refl
got_back (Err e) = refl

pub given_unique : OneReply goal.ps goal.r given_reads.Post
given_unique κs a x y s t p q = read_back got_said got_meant got_back x y _ p.0 q.0

-- how many bytes a read took
abbrev took : Result ℕ ReadFailed → ℕ
took (Ok n) = n
took (Err e) = 0

-- where the input's bytes are known, so many of them stand at the row's start, and the others are left
took_first : (xs : List ℕ) (new : Option (List ℕ)) (read : Result ℕ ReadFailed) (row : List ℕ)
    → Within read (length row) → ReadConsumes (Some xs) new read row → (take (took read) row ≡ take (took read) xs) × (new ≡ Some (drop (took read) xs))
took_first xs (Some ys) (Ok n) row within c =
    let long : length (take n row) ≡ n = length-take-le n row within in
    let at : (k : ℕ) → length (take n row) ≡ k → (take n row ≡ take k xs) × (Some ys ≡ Some (drop k xs)) =
    λ k e. subst (λ (j : ℕ). (take n row ≡ take j xs) × (Some ys ≡ Some (drop j xs))) e
    (subst (λ (zs : List ℕ). (take n row ≡ take (length (take n row)) zs) × (Some ys ≡ Some (drop (length (take n row)) zs))) (sym c.0)
    (sym (take-append_seam (take n row) ys), ap Some (sym (drop-append_seam (take n row) ys)))) in
    at n long
took_first xs None (Ok n) row within c = absurd c.0
took_first xs (Some ys) (Err e) row within c = (refl, ap Some c)
took_first xs None (Err e) row within c = absurd c

-- Whatever is read. How many bytes come, and whether a read fails, is the input's; a lent row keeps its length.
module _ (R : RattleType) (laws : Laws R) (reader : Read.Ghosts R.Denot) (table : Dict) where
  pub read_once_unique : (κs : Lfts 3) (a : Dens κs (read_once_kinds.ps R laws)) (x y : (res_t (read_once_kinds.r R laws) κs).Denot)
      (s t : AtExit (ended_of 3 (read_once_kinds.ps R laws) (read_once_kinds.r R laws)) κs)
      → read_once_reads.Post R laws reader table κs a x s
      → read_once_reads.Post R laws reader table κs a y t
      → x ≡ y
      → (xs : List ℕ) → reader.remaining a.0.now ≡ Some xs
      → length s.1.0.now ≡ length a.1.0.now
      → length t.1.0.now ≡ length a.1.0.now
      → (take (took x) s.1.0.now ≡ take (took y) t.1.0.now) × (reader.remaining s.0.now ≡ reader.remaining t.0.now)
  read_once_unique κs a x y s t p q e xs known long longer =
      let whole = λ (r : Result ℕ ReadFailed) (row : List ℕ) (new : Option (List ℕ)) (h : length row ≡ length a.1.0.now)
      (w : Within r (length a.1.0.now)) (c : ReadConsumes (reader.remaining a.0.now) new r row).
      took_first xs new r row (subst (λ (n : ℕ). Within r n) (sym h) w) (subst (λ (o : Option (List ℕ)). ReadConsumes o new r row) known c) in
      let one = whole x s.1.0.now (reader.remaining s.0.now) long p.0 p.1 in
      let other = whole y t.1.0.now (reader.remaining t.0.now) longer q.0 q.1 in
      let same = ap took e in
      (one.0 ∙ ap (λ (n : ℕ). take n xs) same ∙ sym other.0, one.1 ∙ ap (λ (n : ℕ). Some (drop n xs)) same ∙ sym other.1)
