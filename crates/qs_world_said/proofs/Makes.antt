-- What an owner's line makes of the course as it comes: an ask, and an abort.
use Rattle.std.proofs.Common.{◌≡◌, ◌∙◌, ℕ, ◌==◌, true, false, List, [], ◌∷◌, Option, Some, None, inl, refl, sym, ap}
use Rattle.std.specs.Prelude.{slice_get}
use Rattle.std.specs.BTreeMap.{is_at}
use Rattle.std.specs.Map.{lookup}
use Rattle.qs_base.specs.declared.identifiers.ClientNo.{ClientNo}
use Rattle.qs_base.specs.declared.identifiers.Outcome.TheVariants as outcomes
use Rattle.qs_base.specs.declared.identifiers.Tid.{Tid}
use Rattle.qs_base_lemmas.proofs.Tests.{some_same}
use Rattle.qs_ops.specs.declared.answer.Cause.TheVariants as causes
use Rattle.qs_ops.specs.declared.reply.Reply.{Reply}
use Rattle.qs_book_journal.specs.declared.entry.Act.{Act}
use Rattle.qs_book_journal.specs.declared.entry.Act.TheVariants as acts
use Rattle.qs_book_journal.specs.declared.script_line.Command.{Command}
use Rattle.qs_book_journal.specs.declared.script_line.Command.TheVariants as commands
use Rattle.qs_book_journal.specs.declared.script_line.ScriptLine.{ScriptLine}
use Rattle.qs_book_laws.proofs.Maps.{changed_at_here}
use Rattle.qs_book_machine.specs.Book.{BookValue, changed_at, find_transaction, owner_of}
use Rattle.qs_book_conformance.specs.Borrowing.{owns}
use Rattle.qs_book_conformance.specs.Course.{ClientValue, CourseValue, first_of, sought_cmp}
use Rattle.qs_book_conformance.specs.Effects.{course_after, line_effect, owner_makes, stamped}
use Rattle.qs_book_conformance.specs.declared.values.CommandMade.{CommandMade}
use Rattle.qs_book_conformance.specs.declared.values.CommandMade.TheVariants as makes
use Rattle.qs_node_step.specs.State.{Work}
use Rattle.qs_node_step.specs.declared.state.Issued.{Issued}
use Rattle.qs_node_step.specs.declared.state.OpenCommand.{OpenCommand}
use Rattle.qs_world.specs.Posting.{entry_of}
use Rattle.qs_world_course.specs.Clients.{ForClients, IsOnCourse, in_hand_of, sought_of}
use Rattle.qs_world_course.specs.Due.{IsOf, Said}
use Rattle.qs_world_course.specs.Going.{LeavesClient}
use Rattle.qs_world_course.specs.KindLaws.{LeavesClients}
use Rattle.qs_world_course.specs.Reasons.{aborted}
use Rattle.qs_world_course.proofs.KindsKept.{lines_leave_clients}
use Rattle.qs_world_course.proofs.MadeLaws.{abort_is_kept, ask_is_kept}
use Rattle.qs_world_course.proofs.Stays.{client_stays, made_goes}
use Rattle.qs_world_walk.specs.Deed as d
use Rattle.qs_world_walk.specs.Deed.{did, fresh_command}
use Rattle.qs_world_said.specs.Amid.{AreAmid, ClientAmid, IsFor, IsSaidSo, clients_of, course_amid}
use Rattle.qs_world_said.specs.Deeds.{AbortsKeep, AsksKeep, IsOwners}
use Rattle.qs_world_said.specs.Knows.{KnowsAtStage, KnowsTid}
use Rattle.qs_world_said.proofs.Answers as answering
use Rattle.qs_world_said.proofs.Frames.{AreOthers, KeepsReplies, all_amid, amid_stays, goes, leaves_itself, of_state, same_replies, the_others}
use Rattle.qs_world_said.proofs.InHand.{Handed, just_unmade, not_over_owned, on_course}
use Rattle.qs_world_said.proofs.Lookups.{changed_far, same_number}
use Rattle.qs_world_said.proofs.Unseen.{aborted_leaves}

-- ---- the state of one client is changed by an entry

pub changed_amid : (was entered : CourseValue) (had now : ForClients) (client : ClientNo) (f : ClientValue → ClientValue) → entered.clients ≡ changed_at client.0 f was.clients → KeepsReplies was entered
    → ((other : ClientNo) → (client.0 == other.0) ≡ false → LeavesClient other had now) → (came : Option ClientNo) → ((other : ClientNo) → (client.0 == other.0) ≡ false → ClientAmid was had came other) → ClientAmid entered now came client
    → AreAmid entered now came
changed_amid was entered had now client f clients replies leaves came on own = all_amid entered now came client own
    (λ other far. amid_stays other had now (leaves other far) came was entered (ap (λ cs. slice_get cs other.0) clients ∙ changed_far f was.clients client.0 other.0 far) replies (on other far))

pub changed_there : (was entered : CourseValue) (client : ClientNo) (f : ClientValue → ClientValue) (state : ClientValue) → entered.clients ≡ changed_at client.0 f was.clients → slice_get was.clients client.0 ≡ Some state
    → slice_get entered.clients client.0 ≡ Some (f state)
changed_there was entered client f state clients there = ap (λ cs. slice_get cs client.0) clients ∙ changed_at_here f was.clients client.0 state there

abbrev pub making : CommandMade → ClientValue → ClientValue
making made state = record state { made = made }

-- the owner is the one that owns
owner_so : (o : Option ClientNo) (client : ClientNo) → owns o client ≡ true → o ≡ Some client
owner_so None client is = absurd (cc is)
owner_so (Some owner) client is = ap (λ (c : ClientNo). Some c) (same_number owner client is)

-- ---- an owner's line, as it comes

module _ (stamp : ℕ) (before : CourseValue) (work : Work) (line : ScriptLine) (tid : Tid) (knows : KnowsAtStage (course_amid stamp before work) work.node) (i : IsOwners (course_amid stamp before work) line tid work)
    (came : Option ClientNo) (mine : IsFor line.client came) (h : IsSaidSo stamp before came work) where
  abbrev client : ClientNo
  client = line.client

  abbrev was : CourseValue
  was = course_amid stamp before work

  abbrev had : ForClients
  had = clients_of work

  abbrev here : ℕ
  here = had.here.0

  abbrev hand : Handed was had came client (fresh_command line)
  hand = answering.hand stamp before work client (fresh_command line) knows i.there came mine h

  abbrev its : Said
  its = answering.s stamp before work client (fresh_command line) knows i.there came mine h

  abbrev t : KnowsTid was client line.label i.met.begun tid
  t = knows.names.tids client (fresh_command line) i.met.begun tid i.there i.met.met i.met.of_is

  of : IsOf its true tid t.tx
  of = answering.is_of stamp before work client (fresh_command line) knows i.there came mine h true i.met.begun tid i.met.met i.met.own_is i.met.of_is t

  owner : owner_of (find_transaction was.book tid) ≡ Some client
  owner = ap owner_of t.found ∙ owner_so t.tx.owner client of.own_is

  nothing : hand.state.made ≡ makes.Nothing
  nothing = just_unmade had client hand.state line (i.came hand.state hand.there) hand.first (λ over. not_over_owned work client (fresh_command line) true tid i.met over refl i.undecided)

  held : IsOnCourse had client hand.state.left hand.state
  held = on_course had came client hand.state hand.amid nothing

  others : AreOthers was had client
  others = the_others was had came client mine h.on

  -- its line takes nothing
  idle : (c : Command) → line.command ≡ c → (c ≡ commands.Take → ⊥) → (made : CommandMade) (l : ScriptLine) → first_of hand.state.left ≡ Some l → l.command ≡ commands.Take → made ≡ makes.Nothing
  idle c is other made l at takes = absurd (other (sym is ∙ (ap (λ (x : ScriptLine). x.command) (some_same (sym hand.first ∙ at)) ∙ takes)))

  none_issued : (now : ForClients) → now.in_hand ≡ had.in_hand → (entered : CourseValue) (command : OpenCommand) (issued : Issued) → in_hand_of client now.in_hand ≡ Some command → command.issued ≡ Some issued
      → (given : List Reply) × (lookup (is_at (sought_cmp (sought_of now.here issued))) entered.replies ≡ Some given)
  none_issued now same entered command issued is has = absurd (cc (ap (λ (c : OpenCommand). c.issued) (some_same (sym i.there ∙ (ap (in_hand_of client) (sym same) ∙ is))) ∙ has))

  -- ---- it asks

  module _ (commits : line.command ≡ commands.Commit) where
    abbrev entered : CourseValue
    entered = course_after was (entry_of here stamp (acts.Ask tid))

    abbrev line_left : CourseValue
    line_left = stamped stamp here was

    clients_are : entered.clients ≡ changed_at client.0 (making makes.Asked) was.clients
    clients_are = ap (λ (o : Option ClientNo). (owner_makes o makes.Asked line_left).clients) owner

    replies_are : entered.replies ≡ was.replies
    replies_are = ap (λ (o : Option ClientNo). (owner_makes o makes.Asked line_left).replies) owner

    own_asked : ClientAmid entered had None client
    own_asked = of_state entered had None client (making makes.Asked hand.state) (record {
      there = changed_there was entered client (making makes.Asked) hand.state clients_are hand.there;
      sits = hand.sits;
      amid = inl (made_goes had client hand.state.left hand.state (fresh_command line) makes.Asked held i.there commits);
      ungiven = λ given. absurd (cc given);
      idle = idle commands.Commit commits (λ e. absurd (cc e)) makes.Asked;
      waits = none_issued had refl entered;
    })

    pub asks_on : IsSaidSo stamp before None (did (d.Asks line tid) work)
    asks_on = goes stamp before work (did (d.Asks line tid) work) (acts.Ask tid ∷ []) refl refl came None h
        (ask_is_kept its tid t.tx (record { first = answering.first stamp before work client (fresh_command line) knows i.there came mine h; is = commits; nothing = nothing }) of, tt)
        (changed_amid was entered had had client (making makes.Asked) clients_are (same_replies was entered replies_are) (λ other far. leaves_itself other had) None others own_asked)

  -- ---- it aborts

  module _ (ends : line.command ≡ commands.Abort) where
    abbrev act : Act
    act = acts.Decide tid outcomes.Abort (Some causes.Asked)

    abbrev decided : CourseValue
    decided = course_after was (entry_of here stamp act)

    abbrev lines_passed : CourseValue
    lines_passed = line_effect stamp here act was

    leaves : LeavesClients was lines_passed
    leaves = lines_leave_clients stamp here act was

    owner_then : owner_of (find_transaction lines_passed.book tid) ≡ Some client
    owner_then = ap (λ (b : BookValue). owner_of (find_transaction b tid)) leaves.book ∙ owner

    clients_then : decided.clients ≡ changed_at client.0 (making makes.Aborted) was.clients
    clients_then = ap (λ (o : Option ClientNo). (owner_makes o makes.Aborted lines_passed).clients) owner_then ∙ ap (changed_at client.0 (making makes.Aborted)) leaves.clients

    replies_then : decided.replies ≡ was.replies
    replies_then = ap (λ (o : Option ClientNo). (owner_makes o makes.Aborted lines_passed).replies) owner_then ∙ leaves.replies

    abbrev now : ForClients
    now = clients_of (aborted tid causes.Asked work)

    own_aborted : ClientAmid decided now None client
    own_aborted = of_state decided now None client (making makes.Aborted hand.state) (record {
      there = changed_there was decided client (making makes.Aborted) hand.state clients_then hand.there;
      sits = hand.sits;
      amid = inl (client_stays had now client hand.state.left (making makes.Aborted hand.state) (made_goes had client hand.state.left hand.state (fresh_command line) makes.Aborted held i.there ends) (aborted_leaves work tid causes.Asked client));
      ungiven = λ given. absurd (cc given);
      idle = idle commands.Abort ends (λ e. absurd (cc e)) makes.Aborted;
      waits = none_issued now refl decided;
    })

    pub aborts_on : IsSaidSo stamp before None (aborted tid causes.Asked work)
    aborts_on = goes stamp before work (aborted tid causes.Asked work) (act ∷ []) refl refl came None h
        (abort_is_kept its tid t.tx (record { first = answering.first stamp before work client (fresh_command line) knows i.there came mine h; is = ends; nothing = nothing }) of, tt)
        (changed_amid was decided had now client (making makes.Aborted) clients_then (same_replies was decided replies_then) (λ other far. aborted_leaves work tid causes.Asked other) None others own_aborted)

pub asks_keep : AsksKeep
asks_keep stamp before work line tid knows i commits came mine h = asks_on stamp before work line tid knows i came mine h commits

pub aborts_keep : AbortsKeep
aborts_keep stamp before work line tid knows i ends came mine h = aborts_on stamp before work line tid knows i came mine h ends
