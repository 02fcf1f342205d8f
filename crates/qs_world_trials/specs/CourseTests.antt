-- What the course of a run, as its entries so far tell it, has in common with the world: the lines that each client has left, what the first of them has made, its loans,
-- replies on their way, the audit node and the quotas, as a test.
use Rattle.std.specs.Prelude.{ℕ, ◌==◌, Bool, true, false, not, ◌&&◌, List, Option, Some, None, fold, is_none, length, nat_lt, slice_get}
use Rattle.std.specs.Cmp.Lexicographic.{pointwise}
use Rattle.std.specs.BTreeMap.{is_at}
use Rattle.std.specs.List.{filter, find, list_all, list_any}
use Rattle.std.specs.Map.{lookup}
use Rattle.qs_base.specs.Order.{same_member, same_tid}
use Rattle.qs_base.specs.declared.identifiers.ClientNo.{ClientNo}
use Rattle.qs_base.specs.declared.identifiers.Tid.{Tid}
use Rattle.qs_book_conformance.specs.Alike.{is_answer_of}
use Rattle.qs_book_conformance.specs.Begun.{at_start}
use Rattle.qs_book_conformance.specs.Commands.{is_commit}
use Rattle.qs_book_conformance.specs.Course.{BorrowingValue, ClientValue, CourseValue, borrowing_of, is_seat, sought_cmp}
use Rattle.qs_book_conformance.specs.Effects.{course_after}
use Rattle.qs_book_conformance.specs.declared.values.Loan.{Loan}
use Rattle.qs_book_conformance.specs.declared.values.CommandMade.{CommandMade}
use Rattle.qs_book_conformance.specs.declared.values.CommandMade.TheVariants as makes
use Rattle.qs_book_conformance.specs.declared.values.Sought.{Sought}
use Rattle.qs_engage.specs.Nodes.{same_node}
use Rattle.qs_node_kept.specs.Loans.{is_loan_of}
use Rattle.qs_node_kept.specs.declared.kept.Lent.{Lent}
use Rattle.qs_book_machine.specs.Book.{BookValue}
use Rattle.qs_world_lawful.specs.Parcels.{on_its_way}
use Rattle.qs_ops.specs.Operations.{answer_of}
use Rattle.qs_ops.specs.declared.reply.Reply.{Reply}
use Rattle.qs_ops.specs.declared.server.ServerKind.{ServerKind}
use Rattle.qs_ops.specs.declared.server.ServerKind.TheVariants as kinds
use Rattle.qs_packet.specs.declared.message.Message.TheVariants as messages
use Rattle.qs_node_step.specs.declared.state.Issued.{Issued}
use Rattle.qs_node_step.specs.declared.state.OpenCommand.{OpenCommand}
use Rattle.qs_world.specs.Driven.{up_to}
use Rattle.qs_world.specs.Histories.{book_of}
use Rattle.qs_world.specs.Moves.{node_no}
use Rattle.qs_world.specs.World.{Host, Opening, Parcel, World}
use Rattle.qs_world_refine.specs.Sound.{same_flag, where_so}
use Rattle.qs_world_trials.specs.ScriptTests.{script_of}
use Rattle.qs_world_trials.specs.WorldTests.{each_node, same_line}

abbrev pub course_of : Opening → ℕ → World → CourseValue
course_of o clients world = fold course_after (at_start (script_of o clients) (book_of o)) world.journal

abbrev host_of : World → ℕ → Host
host_of world k = world.hosts (world.clients k).at

abbrev is_up : World → ℕ → Bool
is_up world k = world.channels.up (world.clients k).at

-- ---- lines

abbrev has_left : World → ℕ → ClientValue → Bool
has_left world k state = is_seat state.seat (world.clients k).at && pointwise same_line state.left (world.clients k).lines

-- ---- what the first of them has made: a request that was issued, or a commit that was asked for; all else is answered in the step that makes it

abbrev is_own : ℕ → ClientNo × OpenCommand → Bool
is_own k entry = entry.0.0 == k

abbrev is_sought_as : Sought → Issued → Bool
is_sought_as sought issued = same_tid issued.tid sought.tid && (same_member issued.member sought.member && (issued.number == sought.number))

abbrev is_made_by : CommandMade → OpenCommand → Bool
is_made_by makes.Nothing command = is_none command.issued
is_made_by makes.Asked command = is_commit command.line.command
is_made_by (makes.Issued sought) command = elim command.issued [ None ↦ false | Some issued ↦ is_sought_as sought issued ]
is_made_by _ command = false

-- where the node has no open command of the client, its line is not handed to the node: it may have made something before a restart
abbrev has_made : World → ℕ → ClientValue → Bool
has_made world k state =
    where_so (is_up world k) (elim (find (is_own k) (host_of world k).node.commands) [ None ↦ not (world.clients k).is_handed | Some entry ↦ is_made_by state.made entry.1 ])

-- ---- loans

abbrev same_loan : Lent → Loan → Bool
same_loan lent loan = (lent.inc == loan.inc) && same_flag lent.yielded loan.given_back

abbrev has_borrowed : List Lent → BorrowingValue → Bool
has_borrowed loans borrowing = pointwise same_loan loans borrowing.loans && (length (filter (λ (loan : Lent). loan.taken) loans) == borrowing.taken)

abbrev is_lent_so : World → ℕ → ClientValue → Tid × BorrowingValue → Bool
is_lent_so world k state entry = has_borrowed (filter (is_loan_of (record { 0 = k }) entry.0) (host_of world k).node.kept.now.loans) entry.1

abbrev is_known_loan : ℕ → ClientValue → Lent → Bool
is_known_loan k state loan = where_so (loan.client.0 == k) (nat_lt 0 (length (borrowing_of state loan.tid).loans))

abbrev has_loans : World → ℕ → ClientValue → Bool
has_loans world k state =
    where_so (is_up world k) (list_all (is_lent_so world k state) state.borrowed && list_all (is_known_loan k state) (host_of world k).node.kept.now.loans)

-- ---- replies: one that is on its way to a node, to a request of a client there, was given since that was issued; a request of files is none of the script

abbrev is_reply_in : List Reply → Reply → Bool
is_reply_in replies reply = list_any (is_answer_of (answer_of reply)) replies

abbrev is_given : CourseValue → Sought → Reply → Bool
is_given course sought reply = elim (lookup (is_at (sought_cmp sought)) course.replies) [ None ↦ true | Some replies ↦ is_reply_in replies reply ]

abbrev is_true_reply : CourseValue → ℕ → Parcel → Bool
is_true_reply course m parcel = elim parcel.message [
  | messages.Answered tid member number reply ↦ is_given course (record { tid = tid; member = member; from = node_no m; number = number }) reply
  | messages.Hello ↦ true
  | messages.Request tid label member number issuer op ↦ true
  | messages.AskVote tid ↦ true
  | messages.Covered tid up_to ↦ true
  | messages.VotedYes tid up_to told ↦ true
  | messages.VotedAbort tid cause ↦ true
  | messages.Tell tid outcome ↦ true
  | messages.Told tid further ↦ true
  | messages.Inquire tid ↦ true
]

abbrev has_replies : CourseValue → World → ℕ → Bool
has_replies course world m = list_all (λ (n : ℕ). list_all (is_true_reply course m) (on_its_way world.channels n m)) (up_to world.size)

-- ---- the audit node, and quotas

abbrev has_audit : CourseValue → World → ℕ → Bool
has_audit course world n = elim (world.hosts n).node.setting.audit [
  | None ↦ is_none course.audit
  | Some node ↦ elim course.audit [ None ↦ false | Some other ↦ same_node node other ]
]

abbrev quota_of : ServerKind → Option ℕ
quota_of (kinds.Files quota) = Some quota
quota_of _ = None

abbrev has_quota : CourseValue → World → ℕ → Bool
has_quota course world n = elim (slice_get course.nodes n) [
  | None ↦ false
  | Some state ↦ elim (quota_of (world.hosts n).node.servers.files.kind) [ None ↦ false | Some quota ↦ quota == state.quota ]
]

-- ---- each part, and all of it

abbrev each_client : (World → ℕ → ClientValue → Bool) → ℕ → Opening → BookValue → World → Bool
each_client test clients o book world =
    list_all (λ (k : ℕ). elim (slice_get (course_of o clients world).clients k) [ None ↦ false | Some state ↦ test world k state ]) (up_to clients)

abbrev each_node_so : (CourseValue → World → ℕ → Bool) → ℕ → Opening → BookValue → World → Bool
each_node_so test clients o book world = each_node (test (course_of o clients world) world) world

abbrev pub left_so : ℕ → Opening → BookValue → World → Bool
left_so = each_client has_left

abbrev pub made_so : ℕ → Opening → BookValue → World → Bool
made_so = each_client has_made

abbrev pub loans_so : ℕ → Opening → BookValue → World → Bool
loans_so = each_client has_loans

abbrev pub replies_so : ℕ → Opening → BookValue → World → Bool
replies_so = each_node_so has_replies

abbrev pub audit_so : ℕ → Opening → BookValue → World → Bool
audit_so = each_node_so has_audit

abbrev pub quotas_so : ℕ → Opening → BookValue → World → Bool
quotas_so = each_node_so has_quota

abbrev pub is_on_course : ℕ → Opening → BookValue → World → Bool
is_on_course clients o book world =
    (left_so clients o book world && (made_so clients o book world && loans_so clients o book world))
    && (replies_so clients o book world && (audit_so clients o book world && quotas_so clients o book world))
