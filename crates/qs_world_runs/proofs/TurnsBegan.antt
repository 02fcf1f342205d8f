-- What its home is ready to commit at its turn began before the step: what begins in it nobody asks to commit there.
use Rattle.qs_world_runs.proofs.Words.{◌≡◌, ℕ, ◌<◌, ◌&&◌, not, Bool, true, false, List, [], ◌∷◌, Option, Some, None, is_some, refl, sym, ap, subst, ◌∙◌, eqb-true, or_parts, list_any, Tid, is_passive, Act, Inv, Obliged, BookValue, find_transaction, borrower_at, book_after, effect, TransactionValue, due_tids, is_busy, settle_tid, Work, Event, all_agree, is_ready, Source, entries_of, entry_of, Opening, World, StepMay, step_may, book_at, face_of, AtEach, done_work, HoldsAt, HoldsTid, in_runs}
use Rattle.qs_world_runs.proofs.Words.{MakesStep, nodes_in, deeds_of, is_noted, Joined, book_in, PlacesAt, Here, IsReadyAt, and_first}
use Rattle.qs_base.specs.declared.identifiers.Outcome.TheVariants as outcomes
use Rattle.qs_book_journal.specs.declared.entry.Act.TheVariants as acts
use Rattle.qs_book_laws.proofs.Steps.{stepped}
use Rattle.qs_book_machine.specs.Lawful.{IsLawful}
use Rattle.qs_book_machine.specs.Transaction.{is_open}
use Rattle.qs_tm.specs.Manager as tm
use Rattle.qs_world_refine.specs.Begun.{has_begun}
use Rattle.qs_world_refine.specs.Links.{node_no}
use Rattle.qs_world_lawful.specs.Holds.{HoldsHome}
use Rattle.qs_world_lawful.specs.NodeFacts.{IsPart, locals_of}
use Rattle.qs_world_lawful.specs.Standing.{Stands}
use Rattle.qs_world_lawful.proofs.LearningAll.{stands}
use Rattle.qs_world_runs.specs.Firsts.{Unnoted}
use Rattle.qs_world_runs.specs.PlacesTurns.{BeganAtTurn, TurnsBegan, passed}
use Rattle.qs_world_runs.proofs.PlacedActs.{step_here}
use Rattle.qs_world_runs.proofs.PlacesBegin.{begun_up}
use Rattle.qs_world_runs.proofs.PlacesJoined.{amid}
use Rattle.qs_world_runs.proofs.TraceStages.{turns_done}
use Rattle.qs_world_runs.proofs.UnanimousEarlier.{aside, aside_for, gives}
use Rattle.qs_world_runs.proofs.Unnoted.{AllUnnoted, same_unnoted, unnoted_kept}

-- ---- nobody has asked to commit it: so it stays, where the step does none of what it notes

module _ (tid : Tid) (n stamp : ℕ) where
  abbrev Unasked : TransactionValue → Type 0
  Unasked tx = is_some tx.asked ≡ true → ⊥

  stays : (book : BookValue) (act : Act) → is_noted tid act ≡ false → Obliged tid Unasked Unasked book stamp n act
  stays book (acts.Begin t label client) off = λ tx p. p
  stays book (acts.Issue t issuer other number op) off = gives tid n stamp Unasked book t _ (λ tx p asked. p asked)
  stays book (acts.Serve t other from number reply) off = aside tid n stamp Unasked book t _ off
  stays book (acts.Vote t other ballot covers) off = aside tid n stamp Unasked book t _ off
  stays book (acts.Ask t) off = aside tid n stamp Unasked book t _ off
  stays book (acts.Counted t peer up_to) off = gives tid n stamp Unasked book t _ (λ tx p asked. p asked)
  stays book (acts.Decide t outcome cause) off = gives tid n stamp Unasked book t _ (λ tx p asked. p asked)
  stays book (acts.Ending t other) off = gives tid n stamp Unasked book t _ (λ tx p asked. p asked)
  stays book (acts.Learn t other outcomes.Commit) off = gives tid n stamp Unasked book t _ (λ tx p asked. p asked)
  stays book (acts.Learn t other outcomes.Abort) off = gives tid n stamp Unasked book t _ (λ tx p asked. p asked)
  stays book (acts.Answer client line said) off = ((λ node inc tx p asked. p asked), λ tx p. p)
  stays book (acts.Loan t client) off = aside_for tid n stamp Unasked book t _ (borrower_at client n) off
  stays book (acts.Yield t client) off = aside_for tid n stamp Unasked book t _ (borrower_at client n) off
  stays book acts.Tick off = λ tx p. p
  stays book (acts.Crash cause) off = λ tx p. p
  stays book (acts.Restart inc pend done) off = absurd (cc off)

  unasked : (done : List Act) (book : BookValue) → Inv book → IsLawful book (entries_of n stamp done) → list_any (is_noted tid) done ≡ false → Here tid Unasked book → Here tid Unasked (book_after book (entries_of n stamp done))
  unasked [] book i lawful off p = p
  unasked (act ∷ done) book i lawful off p = let two = or_parts (is_noted tid act) _ off in
      unasked done (effect book (entry_of n stamp act)) (stepped book (entry_of n stamp act) i lawful.0).inv lawful.1 two.1
      (step_here tid Unasked Unasked book (entry_of n stamp act) i lawful.0 (stays book act two.0) (λ label client ticks is asked. cc asked) p)

-- ---- at a turn

module _ (o : Opening) (world : World) (j : Joined PlacesAt o world) (n stamp free : ℕ) (source : Source) (event : Event) (makes : MakesStep world n stamp source event) where
  abbrev before : BookValue
  before = book_in o world

  its : StepMay world n source
  its = step_may world n stamp source makes.may

  module _ (work : Work) (tid : Tid) (unnoted : Unnoted tid (deeds_of (passed work tid))) (s : Stands stamp before world.size (nodes_in world) n (passed work tid)) (ready : IsReadyAt work tid) where
    abbrev now : Work
    now = passed work tid

    facts : IsPart now.node.setting (locals_of now.node tid) tid ready.part
    facts = s.by.facts.parts tid ready.part ready.known

    home_here : tid.home.0 ≡ now.node.setting.node.0
    home_here = eqb-true tid.home.0 now.node.setting.node.0 (sym facts.homed ∙ ready.home)

    found : (tx : TransactionValue) × (find_transaction (book_at stamp before now) tid ≡ Some tx)
    found = stands stamp (book_at stamp before now) now.node tid ready.part s.held.holds ready.known

    held : HoldsTid now.node.setting.node now.node.setting.inc tid found.0 (face_of now.node tid)
    held = subst (λ (x : Option TransactionValue). HoldsAt now.node.setting.node now.node.setting.inc tid x (face_of now.node tid)) found.1 (s.held.holds.at tid)

    home : HoldsHome found.0 (tm.part_of tid now.node.manager)
    home = held.home (ap (λ (k : ℕ). node_no k) home_here) (facts.began ready.home ready.open_now)

    undecided : is_open found.0.cell ≡ true
    undecided = home.undecided ready.part ready.known ready.open_now

    asked : is_some found.0.asked ≡ true
    asked = home.asked ready.part ready.known undecided ∙ first_of ready.part.asked (not ready.part.blocked) (not (is_busy tid now.node ready.part)) (is_passive ready.part.engage) (all_agree ready.part) (and_first (is_ready (is_busy tid now.node ready.part) ready.part) _ ready.may)
      where
        first_of : (a b c d e : Bool) → ((a && b) && ((c && d) && e)) ≡ true → a ≡ true
        first_of true b c d e so = refl
        first_of false b c d e so = absurd (cc so)

    stood : find_transaction before tid ≡ None → ⊥
    stood none = unasked tid now.node.setting.node.0 stamp now.out.entries before (amid o world j n stamp free source event makes).inv s.held.lawful (unnoted.none ready.quiet) (λ tx there. absurd (cc (none, there))) found.0 found.1 asked

    began : has_begun world tid ≡ true
    began = by (find_transaction before tid) refl
      where
        at_n : tid.home.0 ≡ n
        at_n = home_here ∙ s.by.at

        by : (x : Option TransactionValue) → find_transaction before tid ≡ x → has_begun world tid ≡ true
        by None none = absurd (stood none)
        by (Some tx) there = begun_up before world (in_runs o world.journal j.opens j.lawful) j.held tid (ap is_some there) (subst (λ (k : ℕ). k < world.size) (sym at_n) its.low) (ap world.channels.up at_n ∙ its.runs)

  -- ---- from turn to turn

  turns : (tids : List Tid) (work : Work) → AtEach (λ (w : Work) (tid : Tid). AllUnnoted (deeds_of (passed w tid))) settle_tid work tids → AtEach (BeganAtTurn o world n stamp) settle_tid work tids
  turns [] work unnoted = tt
  turns (tid ∷ tids) work unnoted = (λ s ready. began work tid (unnoted.0 tid) s ready, turns tids (settle_tid work tid) unnoted.1)

pub turns_began : TurnsBegan
turns_began o world n stamp free source event j makes =
    turns o world j n stamp free source event makes (due_tids (done_work (world.hosts n).node event free)) (done_work (world.hosts n).node event free)
    (turns_done AllUnnoted AllUnnoted unnoted_kept unnoted_kept (world.hosts n).node event free
    (record { lets = λ d un. un; comes = λ d line is un tid. same_unnoted tid d _ refl refl (un tid); learns = λ d peer t label member number issuer op is un tid. same_unnoted tid d _ refl refl (un tid); takes = λ d peer t label member number issuer op is un tid. same_unnoted tid d _ refl refl (un tid) })
    (λ tid. record { none = λ quiet. refl }))
