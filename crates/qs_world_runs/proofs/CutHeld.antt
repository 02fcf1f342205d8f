-- A step is cut off with its batch kept: the crash is lawful, and the machine after it has the world after it, where each record of the batch fits what the machine had before.
use Rattle.qs_world_runs.proofs.Words.{◌≡◌, inl, ℕ, Bool, true, false, List, ◌++◌, Option, Some, None, refl, sym, ap, subst, ◌∙◌, is_some, append_assoc, slice_get, CrashCause, BookValue, is_crash, effect, Record, recovery, effects_of, Effects, Event, opened_from, Cut, Source, cut_log, event_of, is_later, may_move, may_step, moved, stopped_host, entry_of, Host, Opening, World, Lasts, HoldsLogged, Every, IsCommitLogged, HoldsSaid, HoldsDown, HoldsNodeAt, HoldsUp, opens_soundly, in_runs}
use Rattle.qs_world_runs.proofs.Words.{opened_numbered, opening_named, MakesStep, KeptVotes, Joined, book_in, AfterStep, StaysUnanimousThen, WholeSteps, some_same}
use Rattle.qs_book_journal.specs.declared.entry.Act.TheVariants as acts
use Rattle.qs_book_machine.specs.Book.{crash_node}
use Rattle.qs_book_machine.specs.Nodes as machine
use Rattle.qs_world_refine.proofs.SoundParts.{and_both}
use Rattle.qs_world_lawful.specs.WorldLaws.{StopsWell}
use Rattle.qs_world_lawful.proofs.StopsWhole.{by_quiet, by_said}
use Rattle.qs_world_runs.specs.CutBatches.{EachVoteOfStart}
use Rattle.qs_world_runs.proofs.BatchFits.{batch_fits}
use Rattle.qs_world_runs.proofs.BatchHeld.{down_then}
use Rattle.qs_world_runs.proofs.CutCommits.{keeps, keeps_votes_so}
use Rattle.qs_world_runs.proofs.JoinedSteps.{step_low, step_up}
use Rattle.qs_world_runs.proofs.MarkedBefore.{each_marked_before}

module _ (P : Opening → World → Type 0) (steps : WholeSteps P) (votes : EachVoteOfStart P) (unanimous : AfterStep P StaysUnanimousThen) (o : Opening) (world : World) (n stamp free : ℕ) (source : Source) (cause : CrashCause) (j : Joined P o world) (may : may_move world (Cut n stamp free source true cause) ≡ true) where
  abbrev book : BookValue
  book = book_in o world

  abbrev host : Host
  host = world.hosts n

  lasts : Lasts book
  lasts = in_runs o world.journal j.opens j.lawful

  stepping : may_step world n stamp source ≡ true
  stepping = (and_both (may_step world n stamp source) (is_crash cause) may).0

  comes_some : is_some (event_of world n stamp source) ≡ true
  comes_some = (and_both (is_some (event_of world n stamp source)) _ (and_both (is_later world n stamp) _ (and_both (world.channels.up n) _ stepping).1).1).0

  module _ (event : Event) (comes : event_of world n stamp source ≡ Some event) (forced : (effects_of host.node event free).force ≡ true) (state : machine.NodeValue) (there : slice_get book.nodes n ≡ Some state) where
    makes : MakesStep world n stamp source event
    makes = record { may = stepping; comes = comes }

    abbrev out : Effects
    out = effects_of host.node event free

    abbrev base : List Record
    base = host.log ++ host.waiting

    kept_log : cut_log host true out ≡ base ++ out.records
    kept_log = after_forced ∙ sym (append_assoc host.log host.waiting out.records)
      where
        after_forced : cut_log host true out ≡ host.log ++ (host.waiting ++ out.records)
        after_forced = rw forced refl

    at : HoldsNodeAt book world n
    at = j.held.nodes n (step_low P steps o world j n stamp free source event makes)

    up : HoldsUp n book at.state host
    up = at.runs (step_up P steps o world j n stamp free source event makes)

    same : (other : machine.NodeValue) → slice_get book.nodes n ≡ Some other → other ≡ state
    same other is = some_same (sym is ∙ there)

    logged : HoldsLogged n book state (recovery base)
    logged = subst (λ (s : machine.NodeValue). HoldsLogged n book s (recovery base)) (same up.log.state up.log.there) up.log.all

    said : HoldsSaid n book state (recovery base)
    said = subst (λ (s : machine.NodeValue). HoldsSaid n book s (recovery base)) (same at.state at.there) up.said

    settled_votes : KeptVotes n book (recovery (base ++ out.records))
    settled_votes = subst (λ (rs : List Record). KeptVotes n book (recovery rs)) kept_log (keeps_votes_so P steps unanimous o world n stamp free source event j makes)

    settled_commits : Every (IsCommitLogged n book state) (recovery (base ++ out.records)).committed
    settled_commits = subst (λ (rs : List Record). Every (IsCommitLogged n book state) (recovery rs).committed) kept_log (keeps P steps unanimous o world n stamp free source event j makes state)

    down : HoldsDown n (effect book (entry_of n stamp (acts.Crash cause))) (crash_node book.place state) (stopped_host stamp (cut_log host true out) host)
    down = subst (λ (rs : List Record). HoldsDown n (effect book (entry_of n stamp (acts.Crash cause))) (crash_node book.place state) (stopped_host stamp rs host)) (sym kept_log)
        (down_then n book state there lasts (each_marked_before (opened_from o 0 o.size) world.journal (opens_soundly o j.opens) (opening_named (opened_from o 0 o.size) (opened_numbered o 0 o.size)) j.lawful)
        stamp cause base out.records logged said (batch_fits P steps unanimous o world n stamp free source event j makes state there (votes o world n stamp free source event j makes state there)) settled_votes settled_commits host)

  held : (e : Option Event) → event_of world n stamp source ≡ e → is_some e ≡ true → StopsWell book (moved (Cut n stamp free source true cause) world) n stamp cause
  held None none is = absurd (cc is)
  held (Some event) comes is = by (effects_of host.node event free).force refl
    where
      same : (other : Event) → event_of world n stamp source ≡ Some other → other ≡ event
      same other so = some_same (sym so ∙ comes)

      by : (b : Bool) → (effects_of host.node event free).force ≡ b → StopsWell book (moved (Cut n stamp free source true cause) world) n stamp cause
      by false unforced = by_quiet book world n stamp free source cause lasts j.held may (λ other so. inl (ap (λ (e : Event). (effects_of host.node e free).force) (same other so) ∙ unforced))
      by true forced = by_said book world n stamp free source true cause lasts j.held may (λ other so state there. down other so (ap (λ (e : Event). (effects_of host.node e free).force) (same other so) ∙ forced) state there)

  pub cut_held : StopsWell book (moved (Cut n stamp free source true cause) world) n stamp cause
  cut_held = held (event_of world n stamp source) refl comes_some
