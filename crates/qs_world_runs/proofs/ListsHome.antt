-- Of the votes that a log has with a Commit beside them, which has a list, the transaction began at its node.
use Rattle.qs_world_runs.proofs.Words.{◌≡◌, true, false, Bool, List, [], ◌∷◌, fold, not, refl, sym, subst, if◌then◌else◌, filter, list_all, same_tid-true, NodeNo, Tid, same_node, Record, Prepared, Recovery, found_record, mark_committed, nothing_said, recovery, Every, every_append, every_filter, every_map}
use Rattle.qs_record.specs.declared.record.Record.TheVariants as records
use Rattle.qs_restart.specs.Recovery.{is_of, is_vote_of}
use Rattle.qs_world_refine.specs.Begun.{fits_record, is_list_at}
use Rattle.qs_world_refine.proofs.SoundParts.{and_both}

module _ (past : Tid → Bool) (me : NodeNo) where
  abbrev pub IsHomed : Prepared → Type 0
  IsHomed vote = vote.committed ≡ true → same_node vote.tid.home me ≡ true

  marked : (tid : Tid) → same_node tid.home me ≡ true → (vote : Prepared) → IsHomed vote → IsHomed (mark_committed tid vote)
  marked tid here vote is = by (is_of tid vote) refl
    where
      by : (b : Bool) → is_of tid vote ≡ b → IsHomed (if b then record vote { committed = true } else vote)
      by true same = λ listed. subst (λ (t : Tid). same_node t.home me ≡ true) (sym (same_tid-true vote.tid tid same)) here
      by false apart = is

  homed_record : (said : Recovery) (rec : Record) → fits_record past me rec ≡ true → Every IsHomed said.prepared → Every IsHomed (found_record said rec).prepared
  homed_record said (records.Prepare tid server covers changes) fits all =
      every_append IsHomed (filter (λ other. not (is_vote_of tid server other)) said.prepared) (record { tid = tid; server = server; covers = covers; changes = changes; committed = false } ∷ [])
      (every_filter IsHomed (λ other. not (is_vote_of tid server other)) said.prepared all) ((λ listed. absurd (cc listed)), tt)
  homed_record said (records.Commit tid []) fits all = every_filter IsHomed (λ vote. not (is_of tid vote)) said.prepared all
  homed_record said (records.Commit tid (first ∷ others)) fits all = every_map IsHomed IsHomed (mark_committed tid) (marked tid (and_both (past tid) (is_list_at me tid (first ∷ others)) fits).1) said.prepared all
  homed_record said (records.Aborted tid) fits all = every_filter IsHomed (λ vote. not (is_of tid vote)) said.prepared all
  homed_record said (records.End tid) fits all = every_filter IsHomed (λ vote. not (is_of tid vote)) said.prepared all

  homed_from : (log : List Record) (said : Recovery) → list_all (fits_record past me) log ≡ true → Every IsHomed said.prepared → Every IsHomed (fold found_record said log).prepared
  homed_from [] said fits all = all
  homed_from (rec ∷ log) said fits all = homed_from log (found_record said rec) (and_both (fits_record past me rec) _ fits).1 (homed_record said rec (and_both (fits_record past me rec) _ fits).0 all)

  pub lists_home : (log : List Record) → list_all (fits_record past me) log ≡ true → Every IsHomed (recovery log).prepared
  lists_home log fits = homed_from log nothing_said fits tt
