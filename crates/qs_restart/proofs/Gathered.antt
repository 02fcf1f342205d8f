-- What each record adds to the lists of what stands open.
use Rattle.std.proofs.Common.{◌≡◌, ◌∙◌, ℕ, suc, ◌+◌, ◌<◌, Bool, true, false, List, [], ◌∷◌, ◌++◌, length, drop, get_or, refl, sym, ap, append_assoc, map, arith}
use Rattle.std.proofs.Math.Seq.{drop-cons}
use Rattle.std.specs.Prelude.{not, ◌&&◌, if◌then◌else◌}
use Rattle.std.specs.Map.{lookup}
use Rattle.std.specs.BTreeMap.{is_at}
use Rattle.std.specs.List.{filter, list_any}
use Rattle.qs_base.specs.Order.{tid_cmp}
use Rattle.qs_base.specs.declared.identifiers.NodeNo.{NodeNo}
use Rattle.qs_base.specs.declared.identifiers.ServerNo.{ServerNo}
use Rattle.qs_base.specs.declared.identifiers.Tid.{Tid}
use Rattle.qs_ops.specs.declared.operation.Op.{Op}
use Rattle.qs_record.specs.declared.record.Record.{Record}
use Rattle.qs_record.specs.declared.record.Record.TheVariants as records
use Rattle.qs_restart.specs.declared.places.Ballot.{Ballot}
use Rattle.qs_restart.specs.declared.recovered.OpenVote.{OpenVote}
use Rattle.qs_restart.specs.Recovery.{Prepared, Untold, recovery, names_transaction, open_vote, open_votes, is_in_doubt, prepare_of, in_doubt, commit_of, untold}
use Rattle.qs_restart.specs.Places.{is_prepare_of, is_listed_of, is_end_of, has_none, is_behind, ballot, ballot_cmp, last_place, Follows, votes_of, doubts_of, untold_of}
use Rattle.qs_restart.specs.Standing.{open_at, open_prepares, untold_at, open_commits}
use Rattle.qs_restart.proofs.Opened.{prepared_open, untold_open}
use Rattle.qs_restart.proofs.Behind.{behind}

abbrev pub votes_in : List Record → List OpenVote
votes_in log = map open_vote (filter (λ vote. names_transaction vote.tid) (open_prepares log))

abbrev pub doubts_in : List Record → List Record
doubts_in log = map prepare_of (filter is_in_doubt (open_prepares log))

abbrev pub untold_in : List Record → List Record
untold_in log = map commit_of (filter (λ commit. names_transaction commit.tid) (open_commits log))

pub all_votes : (log : List Record) → votes_in log ≡ open_votes (recovery log)
all_votes log = ap (λ (l : List Prepared). map open_vote (filter (λ vote. names_transaction vote.tid) l)) (sym (prepared_open log))

pub all_doubts : (log : List Record) → doubts_in log ≡ in_doubt (recovery log)
all_doubts log = ap (λ (l : List Prepared). map prepare_of (filter is_in_doubt l)) (sym (prepared_open log))

pub all_untold : (log : List Record) → untold_in log ≡ untold (recovery log)
all_untold log = ap (λ (l : List Untold). map commit_of (filter (λ commit. names_transaction commit.tid) l)) (sym (untold_open log))

-- ---- a record more

gather : {A X : Type 0} (f : A → X) (test : A → Bool) (b : Bool) (v : A) (vs : List A) → map f (filter test ((if b then v ∷ [] else []) ++ vs)) ≡ (if test v && b then f v ∷ [] else []) ++ map f (filter test vs)
gather f test b v vs = by (test v) refl b
  where
    by : (t : Bool) → test v ≡ t → (b : Bool) → map f (filter test ((if b then v ∷ [] else []) ++ vs)) ≡ (if test v && b then f v ∷ [] else []) ++ map f (filter test vs)
    by true is true = rw is refl
    by true is false = rw is refl
    by false is true = rw is refl
    by false is false = rw is refl

tests : (n p e l a b c : Bool) → a ≡ p → b ≡ e → c ≡ l → ((n && not l) && (not p && not e)) ≡ (((n && not a) && not b) && not c)
tests n p e l a b c x y z = rw (x, y, z) (by n p e l)
  where
    by : (n p e l : Bool) → ((n && not l) && (not p && not e)) ≡ (((n && not p) && not e) && not l)
    by true true true true = refl
    by true true true false = refl
    by true true false true = refl
    by true true false false = refl
    by true false true true = refl
    by true false true false = refl
    by true false false true = refl
    by true false false false = refl
    by false p e l = refl

two : (n p e a b : Bool) → a ≡ p → b ≡ e → (n && (not p && not e)) ≡ ((n && not a) && not b)
two n p e a b x y = rw (x, y) (by n p)
  where
    by : (n p : Bool) → (n && (not p && not e)) ≡ ((n && not p) && not e)
    by true p = refl
    by false p = refl

module _ (prepares : List (Ballot × ℕ)) (listed ends : List (Tid × ℕ)) (log : List Record) (f : Follows prepares listed ends log) (i : ℕ) where
  later : (tid : Tid) (server : ServerNo) → is_behind i (lookup (is_at (ballot_cmp (ballot tid server))) prepares) ≡ list_any (is_prepare_of tid server) (drop (suc i) log)
  later tid server = ap (is_behind i) (f.prepare tid server) ∙ behind (is_prepare_of tid server) log i

  ends_behind : (tid : Tid) → is_behind i (lookup (is_at (tid_cmp tid)) ends) ≡ list_any (is_end_of tid) (drop (suc i) log)
  ends_behind tid = ap (is_behind i) (f.end tid) ∙ behind (is_end_of tid) log i

  list_behind : (tid : Tid) → is_behind i (lookup (is_at (tid_cmp tid)) listed) ≡ list_any (is_listed_of tid) (drop (suc i) log)
  list_behind tid = ap (is_behind i) (f.list tid) ∙ behind (is_listed_of tid) log i

  votes_one : (rec : Record) → votes_in (rec ∷ drop (suc i) log) ≡ votes_of rec i prepares ends ++ votes_in (drop (suc i) log)
  votes_one (records.Prepare tid server covers changes) =
      let rest = drop (suc i) log in
      let v : Prepared = record { tid = tid; server = server; covers = covers; changes = changes; committed = list_any (is_listed_of tid) rest } in
      gather open_vote (λ vote. names_transaction vote.tid) (not (list_any (is_prepare_of tid server) rest) && not (list_any (is_end_of tid) rest)) v (open_prepares rest)
      ∙ ap (λ (b : Bool). (if b then open_vote v ∷ [] else []) ++ votes_in rest) (two (names_transaction tid) _ _ _ _ (later tid server) (ends_behind tid))
  votes_one (records.Commit tid told) = refl
  votes_one (records.Aborted tid) = refl
  votes_one (records.End tid) = refl

  doubts_one : (rec : Record) → doubts_in (rec ∷ drop (suc i) log) ≡ doubts_of rec i prepares listed ends ++ doubts_in (drop (suc i) log)
  doubts_one (records.Prepare tid server covers changes) =
      let rest = drop (suc i) log in
      let v : Prepared = record { tid = tid; server = server; covers = covers; changes = changes; committed = list_any (is_listed_of tid) rest } in
      gather prepare_of is_in_doubt (not (list_any (is_prepare_of tid server) rest) && not (list_any (is_end_of tid) rest)) v (open_prepares rest)
      ∙ ap (λ (b : Bool). (if b then records.Prepare tid server covers changes ∷ [] else []) ++ doubts_in rest) (tests (names_transaction tid) _ _ _ _ _ _ (later tid server) (ends_behind tid) (list_behind tid))
  doubts_one (records.Commit tid told) = refl
  doubts_one (records.Aborted tid) = refl
  doubts_one (records.End tid) = refl

  untold_one : (rec : Record) → untold_in (rec ∷ drop (suc i) log) ≡ untold_of rec i ends ++ untold_in (drop (suc i) log)
  untold_one (records.Prepare tid server covers changes) = refl
  untold_one (records.Commit tid told) =
      let rest = drop (suc i) log in
      let c : Untold = record { tid = tid; told = told } in
      gather commit_of (λ commit. names_transaction commit.tid) (not (has_none told) && not (list_any (is_end_of tid) rest)) c (open_commits rest)
      ∙ ap (λ (b : Bool). (if b then records.Commit tid told ∷ [] else []) ++ untold_in rest) (two (names_transaction tid) _ _ _ _ refl (ends_behind tid))
  untold_one (records.Aborted tid) = refl
  untold_one (records.End tid) = refl

  -- the same in a loop over the log
  module _ (within : i < length log) (rec : Record) (is : get_or log i rec ≡ rec) where
    front : drop i log ≡ rec ∷ drop (suc i) log
    front = drop-cons log i rec within ∙ ap (λ (r : Record). r ∷ drop (suc i) log) is

    next : i + 1 ≡ suc i
    next = omega arith

    pub votes_on : (out new : List OpenVote) → new ≡ out ++ votes_of rec i prepares ends → out ++ votes_in (drop i log) ≡ votes_in log → new ++ votes_in (drop (i + 1) log) ≡ votes_in log
    votes_on out new grew so_far = rw next (ap (λ (l : List OpenVote). l ++ votes_in (drop (suc i) log)) grew ∙ append_assoc out (votes_of rec i prepares ends) (votes_in (drop (suc i) log)) ∙ ap (λ (l : List OpenVote). out ++ l) (sym (votes_one rec)) ∙ ap (λ (l : List Record). out ++ votes_in l) (sym front) ∙ so_far)

    pub doubts_on : (out new : List Record) → new ≡ out ++ doubts_of rec i prepares listed ends → out ++ doubts_in (drop i log) ≡ doubts_in log → new ++ doubts_in (drop (i + 1) log) ≡ doubts_in log
    doubts_on out new grew so_far = rw next (ap (λ (l : List Record). l ++ doubts_in (drop (suc i) log)) grew ∙ append_assoc out (doubts_of rec i prepares listed ends) (doubts_in (drop (suc i) log)) ∙ ap (λ (l : List Record). out ++ l) (sym (doubts_one rec)) ∙ ap (λ (l : List Record). out ++ doubts_in l) (sym front) ∙ so_far)

    pub untold_on : (out new : List Record) → new ≡ out ++ untold_of rec i ends → out ++ untold_in (drop i log) ≡ untold_in log → new ++ untold_in (drop (i + 1) log) ≡ untold_in log
    untold_on out new grew so_far = rw next (ap (λ (l : List Record). l ++ untold_in (drop (suc i) log)) grew ∙ append_assoc out (untold_of rec i ends) (untold_in (drop (suc i) log)) ∙ ap (λ (l : List Record). out ++ l) (sym (untold_one rec)) ∙ ap (λ (l : List Record). out ++ untold_in l) (sym front) ∙ so_far)
