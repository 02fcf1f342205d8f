-- The course of a run: what its script and its journal so far say, as far as the next entry hangs on it.
use Rattle.std.specs.Prelude.{ℕ, ◌==◌, Bool, true, false, List, [], ◌∷◌, Option, Some, None, unwrap_or, slice_get}
use Rattle.std.specs.Map.{lookup}
use Rattle.std.specs.BTreeMap.{is_at}
use Rattle.std.specs.declared.cmp.Ordering.{Ordering}
use Rattle.qs_base.specs.Order.{tid_cmp}
use Rattle.qs_base.specs.declared.identifiers.ClientNo.{ClientNo}
use Rattle.qs_base.specs.declared.identifiers.NodeNo.{NodeNo}
use Rattle.qs_base.specs.declared.identifiers.Tid.{Tid}
use Rattle.qs_ops.specs.declared.reply.Reply.{Reply}
use Rattle.qs_book_journal.specs.declared.script_line.ScriptLine.{ScriptLine}
use Rattle.qs_book_machine.specs.Book.{BookValue}
use Rattle.qs_book_conformance.specs.declared.values.Loan.{Loan}
use Rattle.qs_book_conformance.specs.declared.values.CommandMade.{CommandMade}
use Rattle.qs_book_conformance.specs.declared.values.CommandMade.TheVariants as makes
use Rattle.qs_book_conformance.specs.declared.values.Mark.{Mark}
use Rattle.qs_book_conformance.specs.declared.values.NodeCourse.{NodeCourse}
use Rattle.qs_book_conformance.specs.declared.values.Sought.{Sought}
use Rattle.qs_book_conformance.specs.contracts.values.MarkOrd.TheImpl as mark_ord
use Rattle.qs_book_conformance.specs.contracts.values.SoughtOrd.TheImpl as sought_ord

-- what a client borrowed of one transaction
pub record BorrowingValue : Type 0 where
  pub loans : List Loan  -- that were made to it, in order
  pub taken : ℕ  -- how many of its takes were answered

pub record ClientValue : Type 0 where
  pub seat : Option NodeNo  -- its node
  pub left : List ScriptLine  -- its commands that are not answered, in order
  pub made : CommandMade  -- what the first of them has made
  pub refused : List (List ℕ)  -- the labels whose begin was refused for want of room
  pub borrowed : List (Tid × BorrowingValue)

pub record CourseValue : Type 0 where
  pub book : BookValue  -- the reference machine
  pub audit : Option NodeNo  -- the node that keeps the audit notes
  pub clients : List ClientValue  -- by number
  pub nodes : List NodeCourse  -- by number
  pub marks : List (Mark × ℕ)  -- the fault lines `before` and `after` whose entry does not stand
  pub replies : List (Sought × List Reply)  -- to each request of a client, since it was issued

-- ---- orders, of the keys

abbrev pub mark_cmp : Mark → Mark → Ordering
mark_cmp = (mark_ord.ghosts).cmp

abbrev pub sought_cmp : Sought → Sought → Ordering
sought_cmp = (sought_ord.ghosts).cmp

-- ---- look-ups

-- a client sits at this node
abbrev pub is_seat : Option NodeNo → ℕ → Bool
is_seat None here = false
is_seat (Some seat) here = seat.0 == here

abbrev pub first_of : List ScriptLine → Option ScriptLine
first_of [] = None
first_of (line ∷ lines) = Some line

abbrev pub seated_first : ℕ → ClientValue → Option ScriptLine
seated_first here client = elim (is_seat client.seat here) [ true ↦ first_of client.left | false ↦ None ]

-- the first command of the client that is not answered, where the client sits at this node
abbrev pub first_at : CourseValue → ℕ → ClientNo → Option ScriptLine
first_at course here client = elim (slice_get course.clients client.0) [ None ↦ None | Some state ↦ seated_first here state ]

-- what that command has made
abbrev pub made_by : CourseValue → ClientNo → CommandMade
made_by course client = elim (slice_get course.clients client.0) [ None ↦ makes.Nothing | Some state ↦ state.made ]

abbrev pub no_borrowing : BorrowingValue
no_borrowing = record { loans = []; taken = 0 }

abbrev pub borrowing_of : ClientValue → Tid → BorrowingValue
borrowing_of client tid = unwrap_or (lookup (is_at (tid_cmp tid)) client.borrowed) no_borrowing

abbrev pub replies_to : CourseValue → Sought → List Reply
replies_to course sought = unwrap_or (lookup (is_at (sought_cmp sought)) course.replies) []
