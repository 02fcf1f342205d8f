-- What a run of many nodes is once its output was given.
use Rattle.std.proofs.Common.{◌≡◌, ◌⊎◌, ◌∙◌, inl, inr, refl, subst, sym, ℕ, List, length, map, Option, Some, None, Ok, Err}
use Rattle.std.specs.Io.KnownBytes.{Appends}
use Rattle.qs_base.specs.declared.identifiers.NodeNo.{NodeNo}
use Rattle.qs_book_journal.specs.declared.entry.Entry.{Entry}
use Rattle.qs_book_script.specs.declared.script.Script.{Script}
use Rattle.qs_book_script.specs.declared.status.Status.{Status}
use Rattle.qs_book_script.specs.declared.status.Status.TheVariants as statuses
use Rattle.qs_disk.specs.Disk.{DiskState}
use Rattle.qs_io.specs.Streams.{GivesPart}
use Rattle.qs_log.specs.declared.fault.OpenFault.{OpenFault}
use Rattle.qs_log.specs.declared.fault.OpenFault.TheVariants as open_faults
use Rattle.qs_node_step.specs.declared.trace.Step.{Step}
use Rattle.qs_top.specs.Inner.CameTo.{CameShort, CameTo, CameToEnd, CameToNoLog}
use Rattle.qs_top.specs.Inner.Giving.{IsGiven}
use Rattle.qs_top.specs.Inner.Making.{not_opened}
use Rattle.qs_top.specs.Inner.OverNodes.{IsOverNodes}
use Rattle.qs_top.specs.Ran.{RanNotBegun, RanRefused, RanShort, RanWhole, machine_of, opened_in}
use Rattle.qs_top.specs.Run.{AreHeldBy, output_from}
use Rattle.qs_top.specs.Statuses.{IfNot, IsEnd, IsOfRounds}
use Rattle.qs_top.specs.Verdicts.{IsRefusal}
use Rattle.qs_top.specs.declared.outcome.Run.{Run}
use Rattle.qs_top.specs.declared.whole.RunMade.{RunMade}
use Rattle.qs_top.proofs.Given.{ends_given, given_part, given_whole, status_made, status_of_given}
use Rattle.qs_top.proofs.NodesCame.{came_built, came_silent, came_to}
use Rattle.qs_top.proofs.Coherent.{refused_by_script}
use Rattle.qs_top.proofs.NodesTold.{held_all}
use Rattle.qs_top.proofs.StatusLemmas.{IsFaultStatus, end_refuses, same_node, status_ends}
use Rattle.qs_world_opening.specs.Scripts.{Fits}
use Rattle.qs_world_nodes.specs.Openings.{SitOnce}
use Rattle.qs_world_plans.specs.Waiting.{waiting_of}
use Rattle.qs_world_rounds.specs.declared.faults.RoundFault.TheVariants as faults
use Rattle.qs_world_serial.specs.Serial.{IsNotOpened}
use Rattle.qs_text.specs.declared.given.Shown.{Shown}
use Rattle.qs_top.proofs.NodesTraced.{NodesLaws, lasts_judged, lawful_judged, told_judged, traced_judged}

-- ---- the run

module _ {D K : Type 0} (told : Type 0) (state : D → DiskState) (own size : D → ℕ) (seed nodes : ℕ) (script : Script) (shown : Shown) (faults_of : K → ℕ) (given : K → Option (List ℕ)) (before after : K) (made : RunMade) (run : Run) (disks afters : List D) (over : IsOverNodes told state own size seed script shown made disks afters) (gave : IsGiven faults_of given before after made run) (count : length disks ≡ nodes) (once : SitOnce script.seats) (fits : Fits nodes script) (laws : NodesLaws told state own size) where
  came : CameTo told state own size seed script shown made disks afters
  came = came_to told state own size seed script shown made disks afters over

  abbrev StatusOr : Type 0
  StatusOr = (run.status ≡ made.status) ⊎ ((run.status ≡ statuses.WriteFault) × ((bytes : List ℕ) × (made.output ≡ Some bytes)))

  status_or : StatusOr
  status_or = status_of_given faults_of given before after made run gave

  built : IsOfRounds made.status
  built = came_built told state own size seed script shown made disks afters came

  silent : IfNot (IsEnd made.status) (made.output ≡ None)
  silent = came_silent told state own size seed script shown made disks afters came

  ended : (bytes : List ℕ) → made.output ≡ Some bytes → IsEnd made.status
  ended bytes is = ends_given faults_of given before after made run gave silent bytes is

  as_made : (status : Status) → run.status ≡ status → (statuses.WriteFault ≡ status → ⊥) → made.status ≡ status
  as_made status is other = status_made faults_of given before after made run gave status is other

  -- where what was made is an end, it came to its end
  end_of : IsEnd made.status → CameToEnd told state own size seed script shown made disks afters
  end_of e = by came
    where
      by : CameTo told state own size seed script shown made disks afters → CameToEnd told state own size seed script shown made disks afters
      by (inl c) = c
      by (inr (inl c)) = absurd (subst IsEnd c.passed.status e)
      by (inr (inr (inl c))) = absurd (end_refuses made.status e c.failed.refusal)
      by (inr (inr (inr (inl c)))) = absurd (no_opening c.node c.why (subst IsEnd c.unopened.status e))
        where
          no_opening : (node : NodeNo) (why : OpenFault) → IsEnd (not_opened node why) → ⊥
          no_opening node open_faults.DiskFailed end = end
          no_opening node (open_faults.Damaged at) end = end
          no_opening node open_faults.NoMemory end = end
      by (inr (inr (inr (inr c)))) = absurd (subst IsEnd c.nothing.status e)

  whole_as : (Has : Status → Type 0) (Gave : List ℕ → Type 0) (c : CameToEnd told state own size seed script shown made disks afters) → Has made.status → ((bytes : List ℕ) → made.output ≡ Some bytes → Gave bytes)
      → RanWhole told state own size seed nodes script shown Has Gave run.journal run.trace disks afters
  whole_as Has Gave c has out = subst (λ (entries : List Entry). RanWhole told state own size seed nodes script shown Has Gave entries run.trace disks afters) (sym (gave.entries ∙ c.passed.passed.entries))
      (subst (λ (steps : List Step). RanWhole told state own size seed nodes script shown Has Gave c.journal steps disks afters) (sym (gave.steps ∙ c.passed.passed.steps)) (record {
        ending = c.ending;
        tells = c.tells;
        ran = c.ran;
        traced = traced_judged told state own size script seed nodes disks afters count once fits over.read laws (Ok c.ending) tt c.tells c.ran c.journal c.trace c.merged;
        is_told = told_judged told state own size script seed nodes disks afters count once fits over.read laws (Ok c.ending) tt c.tells c.ran c.journal c.trace c.merged c.passed.passed.conforms;
        status = subst Has c.passed.status has;
        gave = out (output_from script c.journal shown (machine_of c.tells)) c.passed.output;
      }))

  pub nodes_ended : IsEnd run.status → RanWhole told state own size seed nodes script shown (λ status. run.status ≡ status) (Appends (given before) (given after)) run.journal run.trace disks afters
  nodes_ended e = by status_or
    where
      by : StatusOr → RanWhole told state own size seed nodes script shown (λ status. run.status ≡ status) (Appends (given before) (given after)) run.journal run.trace disks afters
      by (inl same) = whole_as (λ status. run.status ≡ status) (Appends (given before) (given after)) (end_of (subst IsEnd same e)) same
          (λ bytes is. (given_whole faults_of given before after made.output made.status run.status bytes gave.output is e).1)
      by (inr cut) = absurd (subst IsEnd cut.0 e)

  pub nodes_cut_off : run.status ≡ statuses.WriteFault → RanWhole told state own size seed nodes script shown IsEnd (GivesPart (given before) (given after)) run.journal run.trace disks afters
  nodes_cut_off fault = by status_or
    where
      by : StatusOr → RanWhole told state own size seed nodes script shown IsEnd (GivesPart (given before) (given after)) run.journal run.trace disks afters
      by (inl same) = absurd (subst IsOfRounds (sym same ∙ fault) built)
      by (inr cut) = whole_as IsEnd (GivesPart (given before) (given after)) (end_of e) e (λ bytes is. given_part faults_of given before after made.output made.status run.status bytes gave.output is e fault)
        where
          e : IsEnd made.status
          e = ended cut.1.0 cut.1.1

  pub nodes_short : (node : NodeNo) → run.status ≡ statuses.DiskFault node
      → RanNotBegun told state own size node run.journal run.trace disks afters ⊎ RanShort told state own size seed nodes script node run.journal run.trace disks afters
  nodes_short node is = by came
    where
      made_is : made.status ≡ statuses.DiskFault node
      made_is = as_made (statuses.DiskFault node) is (λ same. absurd (cc same))

      short_as : (m : NodeNo) → m ≡ node → (c : CameShort told state own size seed script made disks afters) → c.node ≡ m → RanShort told state own size seed nodes script m run.journal run.trace disks afters
      short_as m same c here = subst (λ (k : NodeNo). RanShort told state own size seed nodes script k run.journal run.trace disks afters) here
          (subst (λ (entries : List Entry). RanShort told state own size seed nodes script c.node entries run.trace disks afters) (sym (gave.entries ∙ c.passed.passed.entries))
          (subst (λ (steps : List Step). RanShort told state own size seed nodes script c.node c.journal steps disks afters) (sym (gave.steps ∙ c.passed.passed.steps)) (record {
            tells = c.tells;
            ran = c.ran;
            traced = traced_judged told state own size script seed nodes disks afters count once fits over.read laws (Err (faults.DiskFault c.node)) tt c.tells c.ran c.journal c.trace c.merged;
            is_told = told_judged told state own size script seed nodes disks afters count once fits over.read laws (Err (faults.DiskFault c.node)) tt c.tells c.ran c.journal c.trace c.merged c.passed.passed.conforms;
          })))

      no_log : (c : CameToNoLog told state own size made disks afters) (why : OpenFault) → c.why ≡ why → made.status ≡ not_opened c.node why → RanNotBegun told state own size node run.journal run.trace disks afters
      no_log c open_faults.DiskFailed why status = record {
        nothing = record { entries = gave.entries ∙ c.unopened.nothing.nothing.entries; steps = gave.steps ∙ c.unopened.nothing.nothing.steps };
        not = subst (λ (m : NodeNo). IsNotOpened told state own size m.0 open_faults.DiskFailed disks afters) (same_node (sym status ∙ made_is))
            (subst (λ (w : OpenFault). IsNotOpened told state own size c.node.0 w disks afters) why c.not);
      }
      no_log c (open_faults.Damaged at) why status = absurd (subst IsFaultStatus (sym made_is ∙ status) tt)
      no_log c open_faults.NoMemory why status = absurd (subst IsFaultStatus (sym made_is ∙ status) tt)

      by : CameTo told state own size seed script shown made disks afters → RanNotBegun told state own size node run.journal run.trace disks afters ⊎ RanShort told state own size seed nodes script node run.journal run.trace disks afters
      by (inl c) = absurd (subst IsEnd made_is (subst IsEnd (sym c.passed.status) (status_ends c.ending.rounds c.ending.settled (waiting_of script c.journal))))
      by (inr (inl c)) = inr (short_as node refl c (same_node (sym c.passed.status ∙ made_is)))
      by (inr (inr (inl c))) = absurd (subst IsRefusal made_is c.failed.refusal)
      by (inr (inr (inr (inl c)))) = inl (no_log c c.why refl c.unopened.status)
      by (inr (inr (inr (inr c)))) = absurd (subst IsFaultStatus (sym made_is ∙ c.nothing.status) tt)

  pub nodes_refused : (line clause : ℕ) → run.status ≡ statuses.Unlawful line clause → RanRefused told state own size seed nodes script line clause disks afters
  nodes_refused line clause is = by came
    where
      made_is : made.status ≡ statuses.Unlawful line clause
      made_is = as_made (statuses.Unlawful line clause) is (λ same. absurd (cc same))

      no_log : (node : NodeNo) (why : OpenFault) → not_opened node why ≡ statuses.Unlawful line clause → ⊥
      no_log node open_faults.DiskFailed same = cc same
      no_log node (open_faults.Damaged at) same = cc same
      no_log node open_faults.NoMemory same = cc same

      by : CameTo told state own size seed script shown made disks afters → RanRefused told state own size seed nodes script line clause disks afters
      by (inl c) = absurd (subst IsEnd made_is (subst IsEnd (sym c.passed.status) (status_ends c.ending.rounds c.ending.settled (waiting_of script c.journal))))
      by (inr (inl c)) = absurd (cc (sym made_is ∙ c.passed.status))
      by (inr (inr (inl c))) = record {
        ending = c.ending;
        tells = c.tells;
        ran = c.ran;
        journal = c.journal;
        trace = c.trace;
        traced = traced_judged told state own size script seed nodes disks afters count once fits over.read laws c.ending c.judged c.tells c.ran c.journal c.trace c.merged;
        held = λ t. subst (λ (k : ℕ). AreHeldBy state script k disks (map opened_in c.tells)) count (held_all told state own size script seed c.ending c.tells disks afters c.ran t);
        lasts = lasts_judged told state own size script seed nodes disks afters count once fits over.read laws c.ending c.judged c.tells c.ran c.journal c.trace c.merged;
        refused = c.failed.refused line clause made_is;
        by_script = λ t coherent. refused_by_script script (machine_of c.tells) c.journal line clause
            (lawful_judged told state own size script seed nodes disks afters count once fits over.read laws c.ending c.judged c.tells c.ran c.journal c.trace c.merged t coherent) (c.failed.refused line clause made_is);
      }
      by (inr (inr (inr (inl c)))) = absurd (no_log c.node c.why (sym c.unopened.status ∙ made_is))
      by (inr (inr (inr (inr c)))) = absurd (cc (sym made_is ∙ c.nothing.status))
