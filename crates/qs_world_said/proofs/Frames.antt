-- What a step entered so far goes on by the entries of a deed; and what a deed leaves of a client leaves what the course has of it.
use Rattle.std.proofs.Common.{◌≡◌, ◌∙◌, ℕ, ◌==◌, Bool, true, false, List, [], ◌∷◌, ◌++◌, Option, Some, None, inl, inr, refl, sym, ap, subst}
use Rattle.std.specs.Prelude.{slice_get}
use Rattle.std.specs.BTreeMap.{is_at}
use Rattle.std.specs.Map.{lookup}
use Rattle.qs_base.specs.declared.identifiers.ClientNo.{ClientNo}
use Rattle.qs_base.specs.declared.identifiers.NodeNo.{NodeNo}
use Rattle.qs_base_lemmas.proofs.Tests.{eqb-self, some_same}
use Rattle.qs_ops.specs.declared.answer.Answer.{Answer}
use Rattle.qs_ops.specs.declared.reply.Reply.{Reply}
use Rattle.qs_book_journal.specs.declared.entry.Act.{Act}
use Rattle.qs_book_journal.specs.declared.entry.Entry.{Entry}
use Rattle.qs_book_journal.specs.declared.script_line.Command.TheVariants as commands
use Rattle.qs_book_journal.specs.declared.script_line.ScriptLine.{ScriptLine}
use Rattle.qs_book_conformance.specs.Course.{ClientValue, CourseValue, first_of, is_seat, sought_cmp}
use Rattle.qs_book_conformance.specs.Effects.{answered, course_after, rest_of}
use Rattle.qs_book_conformance.specs.declared.values.CommandMade.TheVariants as makes
use Rattle.qs_book_conformance.specs.declared.values.Sought.{Sought}
use Rattle.qs_node_kept.specs.declared.kept.Kept.{Kept}
use Rattle.qs_node_step.specs.State.{Work}
use Rattle.qs_node_step.specs.declared.setting.Setting.{Setting}
use Rattle.qs_node_step.specs.declared.state.Issued.{Issued}
use Rattle.qs_node_step.specs.declared.state.OpenCommand.{OpenCommand}
use Rattle.qs_world.specs.Posting.{entries_of}
use Rattle.qs_world_lawful.specs.Entering.{entries_so_far}
use Rattle.qs_world_course.specs.Answered.{IsAnswered, answer_entry, answered_at}
use Rattle.qs_world_course.specs.Clients.{Commands, ForClients, IsOnCourse, in_hand_of, sought_of}
use Rattle.qs_world_course.specs.Going.{LeavesClient}
use Rattle.qs_world_course.specs.Kinds.{Keeps, RuleOf, course_on, said}
use Rattle.qs_world_course.proofs.Closes.{answers_go}
use Rattle.qs_world_course.proofs.Stays.{client_stays}
use Rattle.qs_world_said.specs.Amid.{AreAmid, ClientAmid, IsAmid, IsFor, IsSaidSo, clients_of, course_amid, unhanded}
use Rattle.qs_world_said.proofs.Lookups.{same_number}

-- ---- entries, one behind another

keeps_more : (rule : RuleOf) (course : CourseValue) (xs ys : List Entry) → Keeps rule course xs → Keeps rule (course_on course xs) ys → Keeps rule course (xs ++ ys)
keeps_more rule course [] ys k l = l
keeps_more rule course (x ∷ xs) ys k l = (k.0, keeps_more rule (course_after course x) xs ys k.1 l)

on_more : (course : CourseValue) (xs ys : List Entry) → course_on course (xs ++ ys) ≡ course_on (course_on course xs) ys
on_more course [] ys = refl
on_more course (x ∷ xs) ys = on_more (course_after course x) xs ys

entries_more : (n stamp : ℕ) (xs ys : List Act) → entries_of n stamp (xs ++ ys) ≡ entries_of n stamp xs ++ entries_of n stamp ys
entries_more n stamp [] ys = refl
entries_more n stamp (x ∷ xs) ys = ap (λ (es : List Entry). record { stamp = stamp; node = record { 0 = n }; act = x } ∷ es) (entries_more n stamp xs ys)

-- a deed enters these acts, and leaves the setting of its node
pub so_far : (stamp : ℕ) (work new : Work) (acts : List Act) → new.node.setting ≡ work.node.setting → new.out.entries ≡ work.out.entries ++ acts → entries_so_far stamp new ≡ entries_so_far stamp work ++ entries_of work.node.setting.node.0 stamp acts
so_far stamp work new acts setting entries = ap (λ (s : Setting). entries_of s.node.0 stamp new.out.entries) setting
    ∙ (ap (entries_of work.node.setting.node.0 stamp) entries ∙ entries_more work.node.setting.node.0 stamp work.out.entries acts)

module _ (stamp : ℕ) (before : CourseValue) (work new : Work) (acts : List Act) (setting : new.node.setting ≡ work.node.setting) (entries : new.out.entries ≡ work.out.entries ++ acts) where
  abbrev more : List Entry
  more = entries_of work.node.setting.node.0 stamp acts

  together : entries_so_far stamp new ≡ entries_so_far stamp work ++ more
  together = so_far stamp work new acts setting entries

  pub course_then : course_amid stamp before new ≡ course_on (course_amid stamp before work) more
  course_then = ap (course_on before) together ∙ on_more before (entries_so_far stamp work) more

  pub goes : (was came : Option ClientNo) → IsSaidSo stamp before was work → Keeps said (course_amid stamp before work) more → AreAmid (course_on (course_amid stamp before work) more) (clients_of new) came → IsSaidSo stamp before came new
  goes was came h keeps on = record {
    keeps = subst (Keeps said before) (sym together) (keeps_more said before (entries_so_far stamp work) more h.keeps keeps);
    on = subst (λ (c : CourseValue). AreAmid c (clients_of new) came) (sym course_then) on;
  }

-- ---- replies that are kept

abbrev pub KeepsReplies : CourseValue → CourseValue → Type 0
KeepsReplies course new = (sought : Sought) (given : List Reply) → lookup (is_at (sought_cmp sought)) course.replies ≡ Some given → (later : List Reply) × (lookup (is_at (sought_cmp sought)) new.replies ≡ Some later)

pub same_replies : (course new : CourseValue) → new.replies ≡ course.replies → KeepsReplies course new
same_replies course new same sought given there = (given, ap (λ (rs : List (Sought × List Reply)). lookup (is_at (sought_cmp sought)) rs) same ∙ there)

-- ---- a client of which all is left

pub leaves_itself : (client : ClientNo) (node : ForClients) → LeavesClient client node node
leaves_itself client node = record { here = refl; inc = refl; in_hand = refl; labels = λ label. refl; outcomes = λ tid decided there. (decided, there); loans = λ tid. refl; last = λ tid. refl }

module _ (client : ClientNo) (node later : ForClients) (leaves : LeavesClient client node later) where
  bare : LeavesClient client (unhanded node) (unhanded later)
  bare = record { here = leaves.here; inc = leaves.inc; in_hand = refl; labels = leaves.labels; outcomes = leaves.outcomes; loans = leaves.loans; last = leaves.last }

  is_amid_stays : (came : Option ClientNo) (state : ClientValue) → IsAmid node came client state → IsAmid later came client state
  is_amid_stays came state (inl held) = inl (client_stays node later client state.left state held leaves)
  is_amid_stays came state (inr (its, just)) =
      inr (its, record { line = just.line; first = just.first; there = leaves.in_hand ∙ just.there; held = client_stays (unhanded node) (unhanded later) client state.left state just.held bare })

  pub amid_stays : (came : Option ClientNo) (course new : CourseValue) → slice_get new.clients client.0 ≡ slice_get course.clients client.0 → KeepsReplies course new → ClientAmid course node came client → ClientAmid new later came client
  amid_stays came course new same replies a = record {
    each = λ state there sits. is_amid_stays came state (a.each state (sym same ∙ there) (at_seat state sits));
    idle = λ state there sits. a.idle state (sym same ∙ there) (at_seat state sits);
    ungiven = λ state there sits. a.ungiven state (sym same ∙ there) (at_seat state sits);
    seated = λ command there. let had = a.seated command (sym leaves.in_hand ∙ there) in (had.0, (same ∙ had.1.0, subst (λ (n : NodeNo). is_seat had.0.seat n.0 ≡ true) (sym leaves.here) had.1.1));
    waits = λ command issued there is. let had = a.waits command issued (sym leaves.in_hand ∙ there) is in
        subst (λ (n : NodeNo). (given : List Reply) × (lookup (is_at (sought_cmp (sought_of n issued))) new.replies ≡ Some given)) (sym leaves.here) (replies (sought_of node.here issued) had.0 had.1);
  }
    where
      at_seat : (state : ClientValue) → is_seat state.seat later.here.0 ≡ true → is_seat state.seat node.here.0 ≡ true
      at_seat state sits = subst (λ (n : NodeNo). is_seat state.seat n.0 ≡ true) leaves.here sits

-- ---- one client, and the others

-- one whose line did not come
pub uncame : (course : CourseValue) (node : ForClients) (came : Option ClientNo) (client : ClientNo) → (came ≡ Some client → ⊥) → ClientAmid course node came client → ClientAmid course node None client
uncame course node came client other a = record { each = λ state there sits. by state (a.each state there sits); ungiven = a.ungiven; idle = a.idle; seated = a.seated; waits = a.waits }
  where
    by : (state : ClientValue) → IsAmid node came client state → IsAmid node None client state
    by state (inl held) = inl held
    by state (inr (its, just)) = absurd (other its)

abbrev pub AreOthers : CourseValue → ForClients → ClientNo → Type 0
AreOthers course node client = (other : ClientNo) → (client.0 == other.0) ≡ false → ClientAmid course node None other

pub the_others : (course : CourseValue) (node : ForClients) (came : Option ClientNo) (client : ClientNo) → IsFor client came → AreAmid course node came → AreOthers course node client
the_others course node came client mine on other far = uncame course node came other (λ its. absurd (cc (sym (eqb-self client.0) ∙ (ap (λ (c : ClientNo). client.0 == c.0) (sym (mine other its)) ∙ far)))) (on other)

pub all_amid : (course : CourseValue) (node : ForClients) (came : Option ClientNo) (client : ClientNo) → ClientAmid course node came client → ((other : ClientNo) → (client.0 == other.0) ≡ false → ClientAmid course node came other) → AreAmid course node came
all_amid course node came client own others k = by (client.0 == k.0) refl
  where
    by : (b : Bool) → (client.0 == k.0) ≡ b → ClientAmid course node came k
    by true is = subst (ClientAmid course node came) (same_number client k is) own
    by false is = others k is

-- what is known of its state is all that is known of it
pub record OfState (course : CourseValue) (node : ForClients) (came : Option ClientNo) (client : ClientNo) (state : ClientValue) : Type 0 where
  pub there : slice_get course.clients client.0 ≡ Some state
  pub sits : is_seat state.seat node.here.0 ≡ true
  pub amid : IsAmid node came client state
  pub ungiven : state.made ≡ makes.GaveBack → ⊥
  pub idle : (line : ScriptLine) → first_of state.left ≡ Some line → line.command ≡ commands.Take → state.made ≡ makes.Nothing
  pub waits : (command : OpenCommand) (issued : Issued) → in_hand_of client node.in_hand ≡ Some command → command.issued ≡ Some issued
      → (given : List Reply) × (lookup (is_at (sought_cmp (sought_of node.here issued))) course.replies ≡ Some given)

pub of_state : (course : CourseValue) (node : ForClients) (came : Option ClientNo) (client : ClientNo) (state : ClientValue) → OfState course node came client state → ClientAmid course node came client
of_state course node came client state o = record {
  each = λ other at seat. subst (IsAmid node came client) (same other at) o.amid;
  ungiven = λ other at seat given. o.ungiven (ap (λ (c : ClientValue). c.made) (same other at) ∙ given);
  idle = λ other at seat. subst (λ (c : ClientValue). (line : ScriptLine) → first_of c.left ≡ Some line → line.command ≡ commands.Take → c.made ≡ makes.Nothing) (same other at) o.idle;
  seated = λ command is. (state, (o.there, o.sits));
  waits = o.waits;
}
  where
    same : (other : ClientValue) → slice_get course.clients client.0 ≡ Some other → state ≡ other
    same other at = some_same (sym o.there ∙ at)

-- ---- a client that is answered

module _ (stamp : ℕ) (course : CourseValue) (node : ForClients) (client : ClientNo) (state : ClientValue) (line : ScriptLine) (rest : List ScriptLine) (answer : Answer) (later : Commands) (kept : Kept)
    (there : slice_get course.clients client.0 ≡ Some state) (left : state.left ≡ line ∷ rest) (gone : in_hand_of client later ≡ None) where
  abbrev new : CourseValue
  new = course_after course (answer_entry stamp node.here.0 client line.line answer)

  abbrev now : ForClients
  now = answered_at later kept node

  its : IsAnswered course new client answer state
  its = answers_go course stamp node.here.0 client line.line answer state there

  none_there : (command : OpenCommand) → in_hand_of client later ≡ Some command → ⊥
  none_there command is = absurd (cc (sym gone ∙ is))

  own : IsOnCourse now client rest (answered course.book answer state) → ClientAmid new now None client
  own held = of_state new now None client (answered course.book answer state) (record {
    there = its.it;
    sits = held.seat;
    amid = inl (subst (λ (ls : List ScriptLine). IsOnCourse now client ls (answered course.book answer state)) (sym (ap rest_of left)) held);
    ungiven = λ given. absurd (cc given);
    idle = λ first is takes. refl;
    waits = λ command issued is. absurd (none_there command is);
  })

  pub answered_amid : IsOnCourse now client rest (answered course.book answer state) → ((other : ClientNo) → (client.0 == other.0) ≡ false → LeavesClient other node now) → AreOthers course node client → AreAmid new now None
  answered_amid held leaves others = all_amid new now None client (own held)
      (λ other far. amid_stays other node now (leaves other far) None course new (its.others other.0 far) (same_replies course new its.replies) (others other far))
