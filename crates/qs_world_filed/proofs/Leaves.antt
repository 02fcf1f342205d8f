-- No entry changes a quota or the audit node.
use Rattle.std.proofs.Common.{◌≡◌, ◌∙◌, ℕ, ◌+◌, Bool, true, false, List, [], ◌∷◌, Option, Some, None, refl}
use Rattle.std.specs.Prelude.{if◌then◌else◌, slice_get}
use Rattle.std.specs.Option.{option_map}
use Rattle.qs_base.specs.declared.identifiers.ClientNo.{ClientNo}
use Rattle.qs_base.specs.declared.identifiers.Outcome.TheVariants as outcomes
use Rattle.qs_base.specs.declared.identifiers.Tid.{Tid}
use Rattle.qs_base_lemmas.proofs.Tests.{some_same}
use Rattle.qs_book_journal.specs.declared.entry.Act.{Act}
use Rattle.qs_book_journal.specs.declared.entry.Act.TheVariants as acts
use Rattle.qs_book_journal.specs.declared.entry.CrashCause.{CrashCause}
use Rattle.qs_book_journal.specs.declared.entry.CrashCause.TheVariants as crashes
use Rattle.qs_book_journal.specs.declared.entry.Entry.{Entry}
use Rattle.qs_book_laws.proofs.Maps.{changed_at_alike}
use Rattle.qs_book_machine.specs.Book.{changed_at, find_transaction, owner_of}
use Rattle.qs_ops.specs.Servers.{is_client_no}
use Rattle.qs_ops.specs.declared.answer.Cause.TheVariants as causes
use Rattle.qs_book_conformance.specs.Borrowing.{node_no}
use Rattle.qs_book_conformance.specs.Course.{CourseValue}
use Rattle.qs_book_conformance.specs.Crashes.{crashed_by, is_right_after, passed_by, stopped}
use Rattle.qs_book_conformance.specs.Effects.{client_effect, course_after, has_mark, label_of, line_effect, mark_at, owner_makes, past, past_after, past_before, past_label, sought_by, stamped, stepped, with_node, without_mark}
use Rattle.qs_book_conformance.specs.Files.{quota_of}
use Rattle.qs_book_conformance.specs.Rules.{client_of}
use Rattle.qs_book_conformance.specs.declared.values.CommandMade.{CommandMade}
use Rattle.qs_book_conformance.specs.declared.values.CommandMade.TheVariants as makes
use Rattle.qs_book_conformance.specs.declared.values.Deed.{Deed}
use Rattle.qs_book_conformance.specs.declared.values.Deed.TheVariants as deeds
use Rattle.qs_book_conformance.specs.declared.values.NodeCourse.{NodeCourse}
use Rattle.qs_world_filed.specs.Reads.{EntriesLeaveSetting, SameSetting}

-- ---- a node of the course is changed, and its quota is not

quota_alike : (a b : Option NodeCourse) → option_map (λ (c : NodeCourse). c.quota) a ≡ option_map (λ (c : NodeCourse). c.quota) b → quota_of a ≡ quota_of b
quota_alike None None e = refl
quota_alike None (Some d) e = absurd (cc e)
quota_alike (Some c) None e = absurd (cc e)
quota_alike (Some c) (Some d) e = some_same e

quotas_stay : (here : ℕ) (f : NodeCourse → NodeCourse) → ((c : NodeCourse) → (f c).quota ≡ c.quota) → (nodes : List NodeCourse) (n : ℕ) → quota_of (slice_get (changed_at here f nodes) n) ≡ quota_of (slice_get nodes n)
quotas_stay here f keeps nodes n = quota_alike (slice_get (changed_at here f nodes) n) (slice_get nodes n) (changed_at_alike (λ (c : NodeCourse). c.quota) f keeps nodes here n)

itself : (course : CourseValue) → SameSetting course course
itself course = record { audit = refl; quotas = λ n. refl }

and_then : (a b c : CourseValue) → SameSetting a b → SameSetting b c → SameSetting a c
and_then a b c h g = record { audit = g.audit ∙ h.audit; quotas = λ n. g.quotas n ∙ h.quotas n }

-- ---- fault lines

stamp_keeps : (stamp here : ℕ) (course : CourseValue) → SameSetting course (stamped stamp here course)
stamp_keeps stamp here course = record { audit = refl; quotas = quotas_stay here (stepped stamp) (λ c. refl) course.nodes }

before_keeps : (here : ℕ) (deed : Deed) (label : List ℕ) (course : CourseValue) → SameSetting course (past_before here deed label course)
before_keeps here deed label course = by (has_mark course (mark_at here false deed label))
  where
    by : (b : Bool) → SameSetting course (if b then with_node here passed_by (without_mark (mark_at here false deed label) course) else course)
    by true = record { audit = refl; quotas = quotas_stay here passed_by (λ c. refl) course.nodes }
    by false = itself course

after_keeps : (here : ℕ) (deed : Deed) (label : List ℕ) (course : CourseValue) → SameSetting course (past_after here deed label course)
after_keeps here deed label course = by (has_mark course (mark_at here true deed label))
  where
    by : (b : Bool) → SameSetting course (if b then with_node here (λ node. record node { is_after = true }) (without_mark (mark_at here true deed label) course) else course)
    by true = record { audit = refl; quotas = quotas_stay here (λ (c : NodeCourse). record c { is_after = true }) (λ c. refl) course.nodes }
    by false = itself course

label_keeps : (here : ℕ) (deed : Deed) (label : Option (List ℕ)) (course : CourseValue) → SameSetting course (past_label here deed label course)
label_keeps here deed None course = itself course
label_keeps here deed (Some label) course = and_then course (past_before here deed label course) (past_after here deed label (past_before here deed label course)) (before_keeps here deed label course) (after_keeps here deed label (past_before here deed label course))

past_keeps : (stamp here : ℕ) (deed : Deed) (tid : Tid) (course : CourseValue) → SameSetting course (past here deed tid (stamped stamp here course))
past_keeps stamp here deed tid course = and_then course (stamped stamp here course) (past here deed tid (stamped stamp here course)) (stamp_keeps stamp here course)
    (label_keeps here deed (label_of (find_transaction (stamped stamp here course).book tid)) (stamped stamp here course))

crash_keeps : (stamp : ℕ) (cause : CrashCause) (c : NodeCourse) → (crashed_by stamp cause c).quota ≡ c.quota
crash_keeps stamp crashes.Plan c = by (is_right_after c stamp)
  where
    by : (b : Bool) → ◌≡◌ {A = ℕ} (if b then c else record c { owing = c.owing + 1 }).quota c.quota
    by true = refl
    by false = refl
crash_keeps stamp (crashes.Disk from to) c = refl
crash_keeps stamp (crashes.Last value) c = refl
crash_keeps stamp crashes.Memory c = refl

stop_keeps : (stamp here : ℕ) (cause : CrashCause) (course : CourseValue) → SameSetting course (stamped stamp here (with_node here (stopped stamp cause) course))
stop_keeps stamp here cause course = and_then course (with_node here (stopped stamp cause) course) (stamped stamp here (with_node here (stopped stamp cause) course))
    (record { audit = refl; quotas = quotas_stay here (stopped stamp cause) (crash_keeps stamp cause) course.nodes }) (stamp_keeps stamp here (with_node here (stopped stamp cause) course))

lines_keep : (stamp here : ℕ) (act : Act) (course : CourseValue) → SameSetting course (line_effect stamp here act course)
lines_keep stamp here (acts.Serve tid member from number reply) course = past_keeps stamp here deeds.Serve tid course
lines_keep stamp here (acts.Vote tid member vote covers) course = past_keeps stamp here deeds.Vote tid course
lines_keep stamp here (acts.Decide tid outcome cause) course = past_keeps stamp here deeds.Decide tid course
lines_keep stamp here (acts.Learn tid member outcome) course = past_keeps stamp here deeds.Learn tid course
lines_keep stamp here (acts.Crash cause) course = stop_keeps stamp here cause course
lines_keep stamp here act course = stamp_keeps stamp here course

-- ---- clients

owner_keeps : (o : Option ClientNo) (made : CommandMade) (course : CourseValue) → SameSetting course (owner_makes o made course)
owner_keeps None made course = itself course
owner_keeps (Some client) made course = record { audit = refl; quotas = λ n. refl }

clients_keep : (here : ℕ) (act : Act) (course : CourseValue) → SameSetting course (client_effect here act course)
clients_keep here (acts.Begin tid label client) course = record { audit = refl; quotas = λ n. refl }
clients_keep here (acts.Issue tid issuer member number op) course = by (is_client_no issuer.server.0)
  where
    by : (b : Bool) → SameSetting course (if b then sought_by (client_of issuer.server.0) (record { tid = tid; member = member; from = node_no here; number = number }) course else course)
    by true = record { audit = refl; quotas = λ n. refl }
    by false = itself course
clients_keep here (acts.Ask tid) course = owner_keeps (owner_of (find_transaction course.book tid)) makes.Asked course
clients_keep here (acts.Decide tid outcomes.Abort (Some causes.Asked)) course = owner_keeps (owner_of (find_transaction course.book tid)) makes.Aborted course
clients_keep here (acts.Serve tid member from number reply) course = record { audit = refl; quotas = λ n. refl }
clients_keep here (acts.Answer client line answer) course = record { audit = refl; quotas = λ n. refl }
clients_keep here (acts.Loan tid client) course = record { audit = refl; quotas = λ n. refl }
clients_keep here (acts.Yield tid client) course = record { audit = refl; quotas = λ n. refl }
clients_keep here act course = record { audit = refl; quotas = λ n. refl }

-- ---- an entry, and many

pub entry_leaves : (course : CourseValue) (entry : Entry) → SameSetting course (course_after course entry)
entry_leaves course entry =
    let lines = lines_keep entry.stamp entry.node.0 entry.act course in
    let clients = clients_keep entry.node.0 entry.act (line_effect entry.stamp entry.node.0 entry.act course) in
    record { audit = clients.audit ∙ lines.audit; quotas = λ n. clients.quotas n ∙ lines.quotas n }

pub entries_leave : EntriesLeaveSetting
entries_leave course [] = record { setting = itself course; book = refl }
entries_leave course (entry ∷ entries) =
    let first = entry_leaves course entry in
    let rest = entries_leave (course_after course entry) entries in
    record { setting = record { audit = rest.setting.audit ∙ first.audit; quotas = λ n. rest.setting.quotas n ∙ first.quotas n }; book = rest.book }
