-- What a Commit applies, and what a state at the front of a log says.
use Rattle.std.proofs.Common.{◌≡◌, ◌∙◌, ℕ, Bool, List, [], ◌∷◌, ◌++◌, refl, ap, append-nil}
use Rattle.std.proofs.lemmas.List.Sums.{fold-append}
use Rattle.std.specs.List.{filter, flat_map}
use Rattle.qs_base.specs.declared.identifiers.NodeNo.{NodeNo}
use Rattle.qs_base.specs.declared.identifiers.ServerNo.{ServerNo}
use Rattle.qs_base.specs.declared.identifiers.Tid.{Tid}
use Rattle.qs_ops.specs.declared.operation.Op.{Op}
use Rattle.qs_record.specs.declared.record.Record.{Record}
use Rattle.qs_record.specs.declared.record.Record.TheVariants as records
use Rattle.qs_restart.specs.Recovery.{Prepared, Recovery, nothing_said, files_no, audit_no, extra_no, is_vote_of, changes_at, found_record, recovery}
use Rattle.qs_restart.specs.Standing.{last_changes, state, StateSays}
use Rattle.qs_restart.proofs.Opened.{prepared_open}
use Rattle.qs_restart.proofs.Behind.{self}

among : (server : ServerNo) (tid : Tid) (log : List Record) → changes_at server tid (recovery log) ≡ last_changes tid server log
among server tid log = ap (λ (votes : List Prepared). flat_map (λ (vote : Prepared). vote.changes) (filter (is_vote_of tid server) votes)) (prepared_open log)

commits_files : (said : Recovery) (tid : Tid) (told : List NodeNo) → (found_record said (records.Commit tid told)).files ≡ said.files ++ changes_at files_no tid said
commits_files said tid [] = refl
commits_files said tid (node ∷ told) = refl

commits_audit : (said : Recovery) (tid : Tid) (told : List NodeNo) → (found_record said (records.Commit tid told)).audit ≡ said.audit ++ changes_at audit_no tid said
commits_audit said tid [] = refl
commits_audit said tid (node ∷ told) = refl

commits_extra : (said : Recovery) (tid : Tid) (told : List NodeNo) → (found_record said (records.Commit tid told)).extra ≡ said.extra ++ changes_at extra_no tid said
commits_extra said tid [] = refl
commits_extra said tid (node ∷ told) = refl

-- a Commit behind a log is taken in after it
behind_log : (log : List Record) (rec : Record) → recovery (log ++ rec ∷ []) ≡ found_record (recovery log) rec
behind_log log rec = fold-append found_record nothing_said log (rec ∷ [])

pub files_applied : (log : List Record) (tid : Tid) (told : List NodeNo) → (recovery (log ++ records.Commit tid told ∷ [])).files ≡ (recovery log).files ++ last_changes tid files_no log
files_applied log tid told = ap (λ (r : Recovery). r.files) (behind_log log (records.Commit tid told)) ∙ commits_files (recovery log) tid told ∙ ap (λ (l : List Op). (recovery log).files ++ l) (among files_no tid log)

pub audit_applied : (log : List Record) (tid : Tid) (told : List NodeNo) → (recovery (log ++ records.Commit tid told ∷ [])).audit ≡ (recovery log).audit ++ last_changes tid audit_no log
audit_applied log tid told = ap (λ (r : Recovery). r.audit) (behind_log log (records.Commit tid told)) ∙ commits_audit (recovery log) tid told ∙ ap (λ (l : List Op). (recovery log).audit ++ l) (among audit_no tid log)

pub extra_applied : (log : List Record) (tid : Tid) (told : List NodeNo) → (recovery (log ++ records.Commit tid told ∷ [])).extra ≡ (recovery log).extra ++ last_changes tid extra_no log
extra_applied log tid told = ap (λ (r : Recovery). r.extra) (behind_log log (records.Commit tid told)) ∙ commits_extra (recovery log) tid told ∙ ap (λ (l : List Op). (recovery log).extra ++ l) (among extra_no tid log)

pub state_says : (node : ℕ) (files audit extra : List Op) → StateSays files audit extra (recovery (state node files audit extra))
state_says node files audit extra = record {
  files_are = rw (self node, self node, self node) (append-nil files);
  audit_are = rw (self node, self node, self node) (append-nil audit);
  extra_are = rw (self node, self node, self node) (append-nil extra);
  no_votes = rw (self node, self node, self node) refl;
  no_commits = refl;
  none_committed = refl;
}
