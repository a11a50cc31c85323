-- Each contract determines its reply: the questions', and that of the product for the crates above.
-- Assumes nothing.
use mathlib.Core.Path.{◌∙◌, sym}
use Rattle.rows.proofs.Determined.{OneReply}
use Rattle.measure.proofs.day_of.Kinds as day_of_kinds
use Rattle.measure.proofs.day_of.Reads as day_of_reads
use Rattle.measure.proofs.remainder_of.Kinds as remainder_of
use Rattle.measure.proofs.remainder_of.Reads as remainder_of_reads
use Rattle.measure.proofs.name_of.Kinds as name_of
use Rattle.measure.proofs.name_of.Reads as name_of_reads
use Rattle.measure.proofs.over_day.Kinds as over_day_kinds
use Rattle.measure.proofs.over_day.Reads as over_day_reads

pub day_of_unique : OneReply day_of_kinds.ps day_of_kinds.r day_of_reads.Post
day_of_unique κs a x y s t p q = p ∙ sym q

pub remainder_of_unique : OneReply remainder_of.ps remainder_of.r remainder_of_reads.Post
remainder_of_unique κs a x y s t p q = p ∙ sym q

pub name_of_unique : OneReply name_of.ps name_of.r name_of_reads.Post
name_of_unique κs a x y s t p q = p ∙ sym q

pub over_day_unique : OneReply over_day_kinds.ps over_day_kinds.r over_day_reads.Post
over_day_unique κs a x y s t p q = p ∙ sym q
