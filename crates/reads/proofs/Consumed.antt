-- A read and what `given` makes of its number took the same bytes of the input. Assumes nothing.
use Rattle.std.proofs.Common.{◌≡◌, ◌∙◌, sym, ap, subst, ℕ, ◌≤◌, List, length, pos, negsuc, min, arith}
use Rattle.std.specs.Prelude.{Option, Result, Ok, Err}
use Rattle.std.specs.Io.KnownBytes.{ReadConsumes}
use Rattle.reads.specs.Given.{Given, bytes, failed, given, got_said}
use Rattle.reads.specs.declared.ReadFailed.{ReadFailed}

abbrev count_of : Given → ℕ
count_of (bytes n) = n
count_of failed = 0

-- it answered so many bytes
pub some_told : {E : Type 0} (old new : Option (List ℕ)) (read : Result ℕ E) (r : Result ℕ ReadFailed) (n : ℕ) (buf : List ℕ)
    → read ≡ Ok n → n ≤ length buf → got_said r ≡ given (pos n) (length buf) → ReadConsumes old new read buf → ReadConsumes old new r buf
unfolding given
some_told {E = E} old new read (Ok m) n buf e fits h took =
    let told : m ≡ min n (length buf) = ap count_of h in
    let same : m ≡ n = told ∙ omega (arith, fits) in
    subst (λ (k : ℕ). ReadConsumes {E = ReadFailed} old new (Ok k) buf) (sym same) (subst (λ (x : Result ℕ E). ReadConsumes old new x buf) e took)
some_told {E = E} old new read (Err x) n buf e fits h took = absurd cc

-- it failed
pub none_told : {E : Type 0} (old new : Option (List ℕ)) (read : Result ℕ E) (r : Result ℕ ReadFailed) (x : E) (k : ℕ) (buf : List ℕ)
    → read ≡ Err x → got_said r ≡ given (negsuc k) (length buf) → ReadConsumes old new read buf → ReadConsumes old new r buf
unfolding given
none_told {E = E} old new read (Ok m) x k buf e h took = absurd cc
none_told {E = E} old new read (Err y) x k buf e h took = subst (λ (z : Result ℕ E). ReadConsumes old new z buf) e took
