-- What becomes of the bytes in hand is determined: the reply, and every byte of the row. What no contract says is whether a write goes
-- through and what the arguments are; a turn and the arguments' line are determined but for that.
-- Assumes nothing.
use mathlib.Core.List.{List}
use mathlib.Core.Path.{◌≡◌, ◌∙◌, sym}
use Rattle.std.specs.Prelude.{Option, Some, None}
use Prim.Native.Nat.{ℕ}
use native.Mathlib.Omega.{arith}
use contract.Lifetimes.{Lfts}
use borrow.Fn.Kinds.{Dens, res_t, ended_of}
use denote.Triple.Clauses.{AtExit}
use mir.Syntax.{Dict}
use denote.RattleType.{RattleType}
use denote.Param.Laws.{Laws}
use Rattle.std.specs.declared.io.Print as Print
use Rattle.std.specs.declared.io.Eprint as Eprint
use Rattle.std.specs.declared.env.Env as Env
use Rattle.rows.proofs.Determined.{OneReply, OneOutcome}
use Rattle.desk.specs.Input.{Left, AskedBy}
use Rattle.desk.specs.declared.Joined.{Joined}
use Rattle.desk.specs.declared.Turn.{Turn}
use Rattle.desk.specs.declared.Turn.TheVariants.{Begun, Ended, CutShort}
use Rattle.desk.proofs.answered.Kinds as answered
use Rattle.desk.proofs.answered.Reads as answered_reads
use Rattle.desk.proofs.last_reply.Kinds as last_reply_kinds
use Rattle.desk.proofs.last_reply.Reads as last_reply_reads
use Rattle.desk.proofs.keep.Kinds as keep
use Rattle.desk.proofs.keep.Reads as keep_reads
use Rattle.desk.proofs.blank_before.Kinds as blank_before_kinds
use Rattle.desk.proofs.blank_before.Reads as blank_before_reads
use Rattle.desk.proofs.with_argument.Kinds as with_argument_kinds
use Rattle.desk.proofs.with_argument.Reads as with_argument_reads
use Rattle.desk.proofs.answer_block.Kinds as answer_block_kinds
use Rattle.desk.proofs.answer_block.Reads as answer_block_reads
use Rattle.desk.proofs.answer_read.Kinds as answer_read_kinds
use Rattle.desk.proofs.answer_read.Reads as answer_read_reads
use Rattle.desk.proofs.join_arguments.Kinds as join_arguments_kinds
use Rattle.desk.proofs.join_arguments.Reads as join_arguments_reads

pub answered_unique : OneOutcome answered.ps answered.r answered_reads.Post (λ κs s. s.1.0.now)
answered_unique κs a x y s t p q = (p.1.0 ∙ sym q.1.0, p.1.1 ∙ sym q.1.1)

pub last_reply_unique : OneOutcome last_reply_kinds.ps last_reply_kinds.r last_reply_reads.Post (λ κs s. s.1.0.now)
last_reply_unique κs a x y s t p q = (p.1.0 ∙ sym q.1.0, p.1.1 ∙ sym q.1.1)

pub keep_unique : OneOutcome keep.ps keep.r keep_reads.Post (λ κs s. s.0.now)
keep_unique κs a x y s t p q = (p.1.0 ∙ sym q.1.0, p.1.1 ∙ sym q.1.1)

pub blank_before_unique : OneOutcome blank_before_kinds.ps blank_before_kinds.r blank_before_reads.Post (λ κs s. s.0.now)
blank_before_unique κs a x y s t p q = (p.1.0 ∙ sym q.1.0, p.1.1 ∙ sym q.1.1)

pub with_argument_unique : OneReply with_argument_kinds.ps with_argument_kinds.r with_argument_reads.Post
with_argument_unique κs a x y s t p q = p.0 ∙ sym q.0

-- two ends of a turn: the same line kept, or both times the input's end; and where a write failed, no input's end
abbrev OneTurn : Turn → Turn → List ℕ → List ℕ → Type 0
OneTurn Begun Begun s t = s ≡ t
OneTurn Begun Ended s t = ⊥
OneTurn Begun CutShort s t = Unit {0}
OneTurn Ended Begun s t = ⊥
OneTurn Ended Ended s t = Unit {0}
OneTurn Ended CutShort s t = ⊥
OneTurn CutShort Begun s t = Unit {0}
OneTurn CutShort Ended s t = ⊥
OneTurn CutShort CutShort s t = Unit {0}

one_turn_lem : (x y : Turn) (s t : List ℕ) (room : ℕ) (line block : List ℕ) → Left x s room line block → Left y t room line block → OneTurn x y s t
one_turn_lem Begun Begun s t room line block p q = p.1 ∙ sym q.1
one_turn_lem Begun Ended s t room line block p q = omega arith
one_turn_lem Begun CutShort s t room line block p q = tt
one_turn_lem Ended Begun s t room line block p q = omega arith
one_turn_lem Ended Ended s t room line block p q = tt
one_turn_lem Ended CutShort s t room line block p q = omega arith
one_turn_lem CutShort Begun s t room line block p q = tt
one_turn_lem CutShort Ended s t room line block p q = omega arith
one_turn_lem CutShort CutShort s t room line block p q = tt

-- whatever it prints with
module _ (T : RattleType) (laws : Laws T) (print : Print.Ghosts T.Denot) (print_table : Dict) (eprint : Eprint.Ghosts T.Denot) (eprint_table : Dict)
  where
    pub answer_block_unique : (κs : Lfts 5) (a : Dens κs (answer_block_kinds.ps T laws)) (x y : (res_t (answer_block_kinds.r T laws) κs).Denot)
        (s t : AtExit (ended_of 5 (answer_block_kinds.ps T laws) (answer_block_kinds.r T laws)) κs)
        → answer_block_reads.Post T laws print print_table eprint eprint_table κs a x s
        → answer_block_reads.Post T laws print print_table eprint eprint_table κs a y t
        → OneTurn x y s.1.1.0.now t.1.1.0.now
    answer_block_unique κs a x y s t p q = one_turn_lem x y _ _ _ _ _ p q

    pub answer_read_unique : (κs : Lfts 5) (a : Dens κs (answer_read_kinds.ps T laws)) (x y : (res_t (answer_read_kinds.r T laws) κs).Denot)
        (s t : AtExit (ended_of 5 (answer_read_kinds.ps T laws) (answer_read_kinds.r T laws)) κs)
        → answer_read_reads.Post T laws print print_table eprint eprint_table κs a x s
        → answer_read_reads.Post T laws print print_table eprint eprint_table κs a y t
        → OneTurn x y s.1.1.0.now t.1.1.0.now
    answer_read_unique κs a x y s t p q = one_turn_lem x y _ _ _ _ _ p q

-- whether the arguments ask is known by their number, and how many are joined
abbrev OneAsked : Option Joined → Option Joined → Type 0
OneAsked (Some m) (Some n) = m.arguments ≡ n.arguments
OneAsked (Some m) None = ⊥
OneAsked None (Some n) = ⊥
OneAsked None None = Unit {0}

one_asked : (x y : Option Joined) (count : ℕ) → AskedBy x count → AskedBy y count → OneAsked x y
one_asked (Some m) (Some n) count p q = omega (arith, p.1, q.1)
one_asked (Some m) None count p q = omega arith
one_asked None (Some n) count p q = omega arith
one_asked None None count p q = tt

-- wherever its arguments come from
module _ (T : RattleType) (laws : Laws T) (env : Env.Ghosts T.Denot) (env_table : Dict) where
  pub join_arguments_unique : (κs : Lfts 2) (a : Dens κs (join_arguments_kinds.ps T laws)) (x y : (res_t (join_arguments_kinds.r T laws) κs).Denot)
      (s t : AtExit (ended_of 2 (join_arguments_kinds.ps T laws) (join_arguments_kinds.r T laws)) κs)
      → join_arguments_reads.Post T laws env env_table κs a x s
      → join_arguments_reads.Post T laws env env_table κs a y t
      → OneAsked x y
  join_arguments_unique κs a x y s t p q = one_asked x y _ p q
