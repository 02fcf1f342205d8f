-- What each record commits, and what the maps follow after it.
use Rattle.std.proofs.Common.{◌≡◌, ◌∙◌, ℕ, ◌+◌, ◌<◌, List, [], ◌∷◌, ◌++◌, length, take, drop, get_or, Option, refl, sym, ap, subst, append-nil, min, arith}
use Rattle.std.proofs.lemmas.List.{take-append-drop, take_more, length-take}
use Rattle.std.proofs.lemmas.List.Sums.{fold_more}
use Rattle.std.specs.Map.{lookup}
use Rattle.std.specs.BTreeMap.{is_at}
use Rattle.qs_base.specs.Order.{tid_cmp}
use Rattle.qs_base.specs.declared.identifiers.ServerNo.{ServerNo}
use Rattle.qs_base.specs.declared.identifiers.Tid.{Tid}
use Rattle.qs_ops.specs.declared.operation.Op.{Op}
use Rattle.qs_record.specs.declared.record.Record.{Record}
use Rattle.qs_record.specs.declared.record.Record.TheVariants as records
use Rattle.qs_restart.specs.declared.places.Ballot.{Ballot}
use Rattle.qs_restart.specs.Recovery.{Recovery, nothing_said, files_no, audit_no, extra_no, changes_at, found_record, recovery}
use Rattle.qs_restart.specs.Places.{is_prepare_of, is_end_of, last_place, ballot, ballot_cmp, pending_in, pending_place, prepares_after, listed_after, ends_after, Follows, changes_in, committed_at, committed_by}
use Rattle.qs_restart.proofs.Pending.{changes_before}
use Rattle.qs_restart.proofs.Following.{follows_more}

module _ (prepares : List (Ballot × ℕ)) (listed ends : List (Tid × ℕ)) (log rest : List Record) (f : Follows prepares listed ends log) where
  -- at the places that the maps tell
  placed : (server : ServerNo) (tid : Tid) → changes_at server tid (recovery log) ≡ changes_in (log ++ rest) (pending_in prepares ends tid server)
  placed server tid =
      changes_before server tid log rest
      ∙ sym (ap (λ (o : Option ℕ). changes_in (log ++ rest) (pending_place o (lookup (is_at (tid_cmp tid)) ends))) (f.prepare tid server)
      ∙ ap (λ (o : Option ℕ). changes_in (log ++ rest) (pending_place (last_place (is_prepare_of tid server) log) o)) (f.end tid))

  pub files_one : (rec : Record) → (found_record (recovery log) rec).files ≡ (recovery log).files ++ committed_at files_no rec (log ++ rest) prepares ends
  files_one (records.Prepare tid server covers changes) = sym (append-nil (recovery log).files)
  files_one (records.Commit tid []) = ap (λ (l : List Op). (recovery log).files ++ l) (placed files_no tid)
  files_one (records.Commit tid (node ∷ told)) = ap (λ (l : List Op). (recovery log).files ++ l) (placed files_no tid)
  files_one (records.Aborted tid) = sym (append-nil (recovery log).files)
  files_one (records.End tid) = sym (append-nil (recovery log).files)

  pub audit_one : (rec : Record) → (found_record (recovery log) rec).audit ≡ (recovery log).audit ++ committed_at audit_no rec (log ++ rest) prepares ends
  audit_one (records.Prepare tid server covers changes) = sym (append-nil (recovery log).audit)
  audit_one (records.Commit tid []) = ap (λ (l : List Op). (recovery log).audit ++ l) (placed audit_no tid)
  audit_one (records.Commit tid (node ∷ told)) = ap (λ (l : List Op). (recovery log).audit ++ l) (placed audit_no tid)
  audit_one (records.Aborted tid) = sym (append-nil (recovery log).audit)
  audit_one (records.End tid) = sym (append-nil (recovery log).audit)

  pub extra_one : (rec : Record) → (found_record (recovery log) rec).extra ≡ (recovery log).extra ++ committed_at extra_no rec (log ++ rest) prepares ends
  extra_one (records.Prepare tid server covers changes) = sym (append-nil (recovery log).extra)
  extra_one (records.Commit tid []) = ap (λ (l : List Op). (recovery log).extra ++ l) (placed extra_no tid)
  extra_one (records.Commit tid (node ∷ told)) = ap (λ (l : List Op). (recovery log).extra ++ l) (placed extra_no tid)
  extra_one (records.Aborted tid) = sym (append-nil (recovery log).extra)
  extra_one (records.End tid) = sym (append-nil (recovery log).extra)

committed_one : (said : Recovery) (rec : Record) → (found_record said rec).committed ≡ said.committed ++ committed_by rec
committed_one said (records.Prepare tid server covers changes) = sym (append-nil said.committed)
committed_one said (records.Commit tid []) = refl
committed_one said (records.Commit tid (node ∷ told)) = refl
committed_one said (records.Aborted tid) = sym (append-nil said.committed)
committed_one said (records.End tid) = sym (append-nil said.committed)

-- in a loop over the log, at place i
module _ (prepares : List (Ballot × ℕ)) (listed ends : List (Tid × ℕ)) (log : List Record) (i : ℕ) (f : Follows prepares listed ends (take i log)) (within : i < length log) (rec : Record) (is : get_or log i rec ≡ rec) where
  said_on : recovery (take (i + 1) log) ≡ found_record (recovery (take i log)) rec
  said_on = fold_more found_record nothing_said log i rec within ∙ ap (found_record (recovery (take i log))) is

  whole : take i log ++ drop i log ≡ log
  whole = take-append-drop i log

  pub files_on : (out new : List Op) → new ≡ out ++ committed_at files_no rec log prepares ends → out ≡ (recovery (take i log)).files → new ≡ (recovery (take (i + 1) log)).files
  files_on out new grew so_far =
      grew ∙ ap (λ (l : List Op). l ++ committed_at files_no rec log prepares ends) so_far
      ∙ ap (λ (l : List Record). (recovery (take i log)).files ++ committed_at files_no rec l prepares ends) (sym whole)
      ∙ sym (files_one prepares listed ends (take i log) (drop i log) f rec) ∙ ap (λ (r : Recovery). r.files) (sym said_on)

  pub audit_on : (out new : List Op) → new ≡ out ++ committed_at audit_no rec log prepares ends → out ≡ (recovery (take i log)).audit → new ≡ (recovery (take (i + 1) log)).audit
  audit_on out new grew so_far =
      grew ∙ ap (λ (l : List Op). l ++ committed_at audit_no rec log prepares ends) so_far
      ∙ ap (λ (l : List Record). (recovery (take i log)).audit ++ committed_at audit_no rec l prepares ends) (sym whole)
      ∙ sym (audit_one prepares listed ends (take i log) (drop i log) f rec) ∙ ap (λ (r : Recovery). r.audit) (sym said_on)

  pub extra_on : (out new : List Op) → new ≡ out ++ committed_at extra_no rec log prepares ends → out ≡ (recovery (take i log)).extra → new ≡ (recovery (take (i + 1) log)).extra
  extra_on out new grew so_far =
      grew ∙ ap (λ (l : List Op). l ++ committed_at extra_no rec log prepares ends) so_far
      ∙ ap (λ (l : List Record). (recovery (take i log)).extra ++ committed_at extra_no rec l prepares ends) (sym whole)
      ∙ sym (extra_one prepares listed ends (take i log) (drop i log) f rec) ∙ ap (λ (r : Recovery). r.extra) (sym said_on)

  pub committed_on : (out new : List Tid) → new ≡ out ++ committed_by rec → out ≡ (recovery (take i log)).committed → new ≡ (recovery (take (i + 1) log)).committed
  committed_on out new grew so_far =
      grew ∙ ap (λ (l : List Tid). l ++ committed_by rec) so_far ∙ sym (committed_one (recovery (take i log)) rec) ∙ ap (λ (r : Recovery). r.committed) (sym said_on)

  front : min i (length log) ≡ i
  front = omega arith

  pub follows_on : (ps : List (Ballot × ℕ)) (ls es : List (Tid × ℕ)) → ps ≡ prepares_after rec i prepares → ls ≡ listed_after rec i listed → es ≡ ends_after rec i ends → Follows ps ls es (take (i + 1) log)
  follows_on ps ls es p l e = rw (p, l, e, take_more log i rec within ∙ ap (λ (r : Record). take i log ++ r ∷ []) is) (subst (λ (n : ℕ). Follows (prepares_after rec n prepares) (listed_after rec n listed) (ends_after rec n ends) (take i log ++ rec ∷ [])) (length-take i log ∙ front) (follows_more prepares listed ends (take i log) rec f))
