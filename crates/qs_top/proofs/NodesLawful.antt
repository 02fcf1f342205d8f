-- The journal of a run of many nodes is lawful, and a fault of a disk and a damage are of the disk that is named.
use Rattle.std.proofs.Common.{◌≡◌, ◌∙◌, ap, inl, inr, refl, subst, sym, ℕ, zero, suc, ◌<◌, ◌^◌, List, [], ◌∷◌, ◌++◌, length, map, Option, Some, Result, Ok, Err, arith, slice_get}
use Rattle.qs_base.specs.Causes.{Rose}
use Rattle.qs_base.specs.declared.identifiers.NodeNo.{NodeNo}
use Rattle.qs_book_journal.specs.declared.entry.Entry.{Entry}
use Rattle.qs_book_machine.specs.Lawful.{IsLawful}
use Rattle.qs_book_machine.specs.Opening.{opening}
use Rattle.qs_book_script.specs.declared.script.Script.{Script}
use Rattle.qs_book_script.specs.declared.status.Status.{Status}
use Rattle.qs_book_script.specs.declared.status.Status.TheVariants as statuses
use Rattle.qs_disk.specs.Disk.{DiskState}
use Rattle.qs_log.specs.Image.{IsDamaged}
use Rattle.qs_log.specs.declared.fault.OpenFault.{OpenFault}
use Rattle.qs_log.specs.declared.fault.OpenFault.TheVariants as open_faults
use Rattle.qs_top.specs.Disks.{AtNode}
use Rattle.qs_top.specs.Inner.CameTo.{CameShort, CameTo, CameToNoLog}
use Rattle.qs_top.specs.Inner.Giving.{IsGiven}
use Rattle.qs_top.specs.Inner.Making.{not_opened}
use Rattle.qs_top.specs.Inner.OverNodes.{IsOverNodes}
use Rattle.qs_top.specs.Ran.{machine_of, opened_in}
use Rattle.qs_top.specs.Run.{AreHeldBy, HasLawful}
use Rattle.qs_top.specs.Statuses.{IsEnd}
use Rattle.qs_top.specs.Verdicts.{IsRefusal}
use Rattle.qs_top.specs.declared.outcome.Run.{Run}
use Rattle.qs_top.specs.declared.whole.RunMade.{RunMade}
use Rattle.qs_top.proofs.Given.{status_made}
use Rattle.qs_top.proofs.NodesCame.{came_to}
use Rattle.qs_top.proofs.NodesLeft.{risen}
use Rattle.qs_top.proofs.NodesTold.{held_all, map_length, sites_count}
use Rattle.qs_top.proofs.StatusLemmas.{IsFaultStatus, same_node, status_ends}
use Rattle.qs_world_nodes.proofs.Places.{found, low_of}
use Rattle.qs_world_plans.specs.Waiting.{waiting_of}
use Rattle.qs_world_rounds.specs.declared.faults.RoundFault.{RoundFault}
use Rattle.qs_world_rounds.specs.declared.faults.RoundFault.TheVariants as faults
use Rattle.qs_world_rounds.specs.declared.rounds.Ending.{Ending}
use Rattle.qs_world_serial.specs.Serial.{HasRun}
use Rattle.qs_world_serial.specs.declared.serial.SiteTold.{SiteTold}
use Rattle.qs_world_sites.specs.Breaks.{HasRisen}
use Rattle.qs_text.specs.declared.given.Shown.{Shown}

in_front : {A : Type 0} (xs rest : List A) (n : ℕ) (x : A) → slice_get xs n ≡ Some x → slice_get (xs ++ rest) n ≡ Some x
in_front [] rest n x is = absurd (cc is)
in_front (y ∷ xs) rest zero x is = is
in_front (y ∷ xs) rest (suc n) x is = in_front xs rest n x is

pub none_lawful : {D : Type 0} (told : Type 0) (state : D → DiskState) (nodes : ℕ) (journal : List Entry) (old new : List D) → journal ≡ [] → HasLawful told state nodes journal old new
none_lawful told state nodes journal old new none = record { opened = []; lawful = subst (IsLawful (opening [])) (sym none) tt; count = λ some. absurd (no_entry journal none some); held = λ some. absurd (no_entry journal none some) }
  where
    no_entry : (entries : List Entry) → entries ≡ [] → 0 < length entries → ⊥
    no_entry entries is some = by (length entries) (ap length is) some
      where
        by : (n : ℕ) → n ≡ 0 → 0 < n → ⊥
        by n is_none some = omega (arith, is_none, some)

module _ {D K : Type 0} (told : Type 0) (state : D → DiskState) (own size : D → ℕ) (seed nodes : ℕ) (script : Script) (shown : Shown) (faults_of : K → ℕ) (given : K → Option (List ℕ)) (before after : K) (made : RunMade) (run : Run) (disks afters : List D) (over : IsOverNodes told state own size seed script shown made disks afters) (gave : IsGiven faults_of given before after made run)
    (old new rest : List D) (old_is : old ≡ disks ++ rest) (new_is : new ≡ afters ++ rest) (count : length disks ≡ nodes) (count_after : length afters ≡ nodes) where
  came : CameTo told state own size seed script shown made disks afters
  came = came_to told state own size seed script shown made disks afters over

  -- what is told is lawful
  told_lawful : (ending : Result Ending RoundFault) (tells : List SiteTold) → HasRun told state own size script seed ending (Ok tells) disks afters → (journal : List Entry) → run.journal ≡ journal → IsLawful (machine_of tells) journal → HasLawful told state nodes run.journal old new
  told_lawful ending tells ran journal is lawful = record {
    opened = map opened_in tells;
    lawful = subst (IsLawful (machine_of tells)) (sym is) lawful;
    count = λ some. map_length opened_in tells ∙ (ran.tells_is.count ∙ (sites_count told state own size script seed ending tells disks afters ran ∙ count));
    held = λ some t. record {
      script = script;
      these = record {
        disks = disks;
        afters = afters;
        rest = rest;
        old_is = old_is;
        new_is = new_is;
        count = count;
        count_after = count_after;
        holds = subst (λ (k : ℕ). AreHeldBy state script k disks (map opened_in tells)) count (held_all told state own size script seed ending tells disks afters ran t);
      };
    };
  }

  pub nodes_lawful : HasLawful told state nodes run.journal old new
  nodes_lawful = by came
    where
      by : CameTo told state own size seed script shown made disks afters → HasLawful told state nodes run.journal old new
      by (inl c) = told_lawful (Ok c.ending) c.tells c.ran c.journal (gave.entries ∙ c.passed.passed.entries) c.passed.passed.conforms.lawful
      by (inr (inl c)) = told_lawful (Err (faults.DiskFault c.node)) c.tells c.ran c.journal (gave.entries ∙ c.passed.passed.entries) c.passed.passed.conforms.lawful
      by (inr (inr (inl c))) = none_lawful told state nodes run.journal old new (gave.entries ∙ c.failed.nothing.nothing.entries)
      by (inr (inr (inr (inl c)))) = none_lawful told state nodes run.journal old new (gave.entries ∙ c.unopened.nothing.nothing.entries)
      by (inr (inr (inr (inr c)))) = none_lawful told state nodes run.journal old new (gave.entries ∙ c.nothing.nothing.nothing.entries)

  -- ---- the disk that is named

  as_made : (status : Status) → run.status ≡ status → (statuses.WriteFault ≡ status → ⊥) → made.status ≡ status
  as_made status is other = status_made faults_of given before after made run gave status is other

  at_node : (node : NodeNo) (P : D → D → Type 0) (disk end : D) → slice_get disks node.0 ≡ Some disk → slice_get afters node.0 ≡ Some end → P disk end → AtNode nodes node P old new
  at_node node P disk end disk_is end_is holds = record {
    in_run = subst (λ (k : ℕ). node.0 < k) count (low_of disks node.0 disk disk_is);
    disk = disk;
    after = end;
    old_is = subst (λ (l : List D). slice_get l node.0 ≡ Some disk) (sym old_is) (in_front disks rest node.0 disk disk_is);
    new_is = subst (λ (l : List D). slice_get l node.0 ≡ Some end) (sym new_is) (in_front afters rest node.0 end end_is);
    holds = holds;
  }

  pub nodes_fault : (node : NodeNo) → run.status ≡ statuses.DiskFault node → AtNode nodes node (λ disk end. Rose (own disk) (own end)) old new
  nodes_fault node is = by came
    where
      made_is : made.status ≡ statuses.DiskFault node
      made_is = as_made (statuses.DiskFault node) is (λ same. absurd (cc same))

      no_log : (c : CameToNoLog told state own size made disks afters) (why : OpenFault) → c.why ≡ why → made.status ≡ not_opened c.node why → AtNode nodes c.node (λ disk end. Rose (own disk) (own end)) old new
      no_log c open_faults.DiskFailed why status = at_node c.node (λ disk end. Rose (own disk) (own end)) c.not.disk c.not.after c.not.disk_is c.not.after_is (c.not.unopened.failed why)
      no_log c (open_faults.Damaged at) why status = absurd (subst IsFaultStatus (sym made_is ∙ status) tt)
      no_log c open_faults.NoMemory why status = absurd (subst IsFaultStatus (sym made_is ∙ status) tt)

      node_of : (why : OpenFault) (m : NodeNo) → made.status ≡ not_opened m why → m ≡ node
      node_of open_faults.DiskFailed m status = same_node (sym status ∙ made_is)
      node_of (open_faults.Damaged at) m status = absurd (subst IsFaultStatus (sym made_is ∙ status) tt)
      node_of open_faults.NoMemory m status = absurd (subst IsFaultStatus (sym made_is ∙ status) tt)

      short : (c : CameShort told state own size seed script made disks afters) → AtNode nodes c.node (λ disk end. Rose (own disk) (own end)) old new
      short c = with_disks (found disks c.node.0 low) (found afters c.node.0 (omega (arith, low, count, count_after)))
        where
          rose : HasRisen own c.node c.ran.first.sites c.ran.last.sites
          rose = (c.ran.cut c.node refl).rose

          low : c.node.0 < length disks
          low = omega (arith, low_of c.ran.first.sites c.node.0 rose.before rose.before_is, c.ran.begins.count)

          with_disks : (disk : D) × (slice_get disks c.node.0 ≡ Some disk) → (end : D) × (slice_get afters c.node.0 ≡ Some end) → AtNode nodes c.node (λ disk end. Rose (own disk) (own end)) old new
          with_disks (disk, disk_is) (end, end_is) = at_node c.node (λ disk end. Rose (own disk) (own end)) disk end disk_is end_is
              (risen told state own size script seed (Err (faults.DiskFault c.node)) (Ok c.tells) disks afters c.ran c.node rose disk end disk_is end_is)

      by : CameTo told state own size seed script shown made disks afters → AtNode nodes node (λ disk end. Rose (own disk) (own end)) old new
      by (inl c) = absurd (subst IsEnd made_is (subst IsEnd (sym c.passed.status) (status_ends c.ending.rounds c.ending.settled (waiting_of script c.journal))))
      by (inr (inl c)) = subst (λ (m : NodeNo). AtNode nodes m (λ disk end. Rose (own disk) (own end)) old new) (same_node (sym c.passed.status ∙ made_is)) (short c)
      by (inr (inr (inl c))) = absurd (subst IsRefusal made_is c.failed.refusal)
      by (inr (inr (inr (inl c)))) = subst (λ (m : NodeNo). AtNode nodes m (λ disk end. Rose (own disk) (own end)) old new) (node_of c.why c.node c.unopened.status) (no_log c c.why refl c.unopened.status)
      by (inr (inr (inr (inr c)))) = absurd (subst IsFaultStatus (sym made_is ∙ c.nothing.status) tt)

  pub nodes_damaged : (node : NodeNo) (at : ℕ) → run.status ≡ statuses.Damaged node at → AtNode nodes node (λ disk end. told → IsDamaged (2 ^ 61) (state disk).content at) old new
  nodes_damaged node at is = by came
    where
      made_is : made.status ≡ statuses.Damaged node at
      made_is = as_made (statuses.Damaged node at) is (λ same. absurd (cc same))

      no_log : (c : CameToNoLog told state own size made disks afters) (why : OpenFault) → c.why ≡ why → not_opened c.node why ≡ statuses.Damaged node at → AtNode nodes node (λ disk end. told → IsDamaged (2 ^ 61) (state disk).content at) old new
      no_log c open_faults.DiskFailed why same = absurd (cc same)
      no_log c open_faults.NoMemory why same = absurd (cc same)
      no_log c (open_faults.Damaged place) why same = subst (λ (m : NodeNo). AtNode nodes m (λ disk end. told → IsDamaged (2 ^ 61) (state disk).content at) old new) (cc same)
          (at_node c.node (λ disk end. told → IsDamaged (2 ^ 61) (state disk).content at) c.not.disk c.not.after c.not.disk_is c.not.after_is (λ t. c.not.unopened.damaged t at (why ∙ damaged_same)))
        where
          damaged_same : open_faults.Damaged place ≡ open_faults.Damaged at
          damaged_same = cc same

      by : CameTo told state own size seed script shown made disks afters → AtNode nodes node (λ disk end. told → IsDamaged (2 ^ 61) (state disk).content at) old new
      by (inl c) = absurd (subst IsEnd made_is (subst IsEnd (sym c.passed.status) (status_ends c.ending.rounds c.ending.settled (waiting_of script c.journal))))
      by (inr (inl c)) = absurd (cc (sym made_is ∙ c.passed.status))
      by (inr (inr (inl c))) = absurd (subst IsRefusal made_is c.failed.refusal)
      by (inr (inr (inr (inl c)))) = no_log c c.why refl (sym c.unopened.status ∙ made_is)
      by (inr (inr (inr (inr c)))) = absurd (cc (sym made_is ∙ c.nothing.status))
