-- The fold of a log keeps just what stands open.
use Rattle.std.proofs.Common.{◌≡◌, ◌∙◌, ℕ, Bool, true, false, List, [], ◌∷◌, ◌++◌, refl, sym, ap, append_assoc, append-nil, fold, map}
use Rattle.std.specs.Prelude.{not, ◌&&◌, ◌||◌, if◌then◌else◌}
use Rattle.std.specs.List.{filter, list_any}
use Rattle.qs_base.specs.Order.{same_tid}
use Rattle.qs_base.specs.declared.identifiers.NodeNo.{NodeNo}
use Rattle.qs_base.specs.declared.identifiers.ServerNo.{ServerNo}
use Rattle.qs_base.specs.declared.identifiers.Tid.{Tid}
use Rattle.qs_ops.specs.declared.operation.Op.{Op}
use Rattle.qs_record.specs.declared.record.Record.{Record}
use Rattle.qs_record.specs.declared.record.Record.TheVariants as records
use Rattle.qs_restart.specs.Recovery.{Prepared, Untold, Recovery, nothing_said, is_vote_of, is_of, is_untold_of, mark_committed, found_record, recovery}
use Rattle.qs_restart.specs.Places.{is_prepare_of, is_listed_of, is_end_of}
use Rattle.qs_restart.specs.Standing.{open_at, open_prepares, untold_at, open_commits}

-- ---- votes that stood before

abbrev marked : List Record → Prepared → Prepared
marked log vote = if list_any (is_listed_of vote.tid) log then record vote { committed = true } else vote

abbrev kept_one : List Record → Prepared → List Prepared
kept_one log vote = if not (list_any (is_prepare_of vote.tid vote.server) log) && not (list_any (is_end_of vote.tid) log) then marked log vote ∷ [] else []

abbrev kept : List Record → List Prepared → List Prepared
kept log [] = []
kept log (vote ∷ votes) = kept_one log vote ++ kept log votes

kept-none : (votes : List Prepared) → kept [] votes ≡ votes
kept-none [] = refl
kept-none (vote ∷ votes) = ap (λ (l : List Prepared). vote ∷ l) (kept-none votes)

kept-append : (log : List Record) (xs ys : List Prepared) → kept log (xs ++ ys) ≡ kept log xs ++ kept log ys
kept-append log [] ys = refl
kept-append log (x ∷ xs) ys = ap (λ (l : List Prepared). kept_one log x ++ l) (kept-append log xs ys) ∙ sym (append_assoc (kept_one log x) (kept log xs) (kept log ys))

and-false : (a : Bool) → a && false ≡ false
and-false true = refl
and-false false = refl

-- a later vote takes the place of an earlier one
kept-prepare : (tid : Tid) (server : ServerNo) (covers : ℕ) (changes : List Op) (log : List Record) (votes : List Prepared)
    → kept log (filter (λ other. not (is_vote_of tid server other)) votes) ≡ kept (records.Prepare tid server covers changes ∷ log) votes
kept-prepare tid server covers changes log [] = refl
kept-prepare tid server covers changes log (v ∷ votes) = by (is_vote_of tid server v) refl (kept-prepare tid server covers changes log votes)
  where
    by : (b : Bool) → is_vote_of tid server v ≡ b → kept log (filter (λ other. not (is_vote_of tid server other)) votes) ≡ kept (records.Prepare tid server covers changes ∷ log) votes
        → kept log (filter (λ other. not (is_vote_of tid server other)) (v ∷ votes)) ≡ kept (records.Prepare tid server covers changes ∷ log) (v ∷ votes)
    by true is more = rw is more
    by false is more = rw is (ap (λ (l : List Prepared). kept_one log v ++ l) more)

-- what ends the transaction ends its votes
kept-end : (tid : Tid) (rec : Record) → ((t : Tid) → is_end_of t rec ≡ same_tid t tid) → ((t : Tid) (s : ServerNo) → is_prepare_of t s rec ≡ false) → ((t : Tid) → is_listed_of t rec ≡ false)
    → (log : List Record) (votes : List Prepared) → kept log (filter (λ vote. not (is_of tid vote)) votes) ≡ kept (rec ∷ log) votes
kept-end tid rec ends no_vote no_list log [] = refl
kept-end tid rec ends no_vote no_list log (v ∷ votes) = by (same_tid v.tid tid) refl (kept-end tid rec ends no_vote no_list log votes)
  where
    ended : (a b : Bool) → (if (not a && not (true || b)) then marked (rec ∷ log) v ∷ [] else []) ≡ []
    ended true b = refl
    ended false b = refl

    by : (b : Bool) → same_tid v.tid tid ≡ b → kept log (filter (λ vote. not (is_of tid vote)) votes) ≡ kept (rec ∷ log) votes
        → kept log (filter (λ vote. not (is_of tid vote)) (v ∷ votes)) ≡ kept (rec ∷ log) (v ∷ votes)
    by true is more = rw (is, no_vote v.tid v.server, ends v.tid, is) (more ∙ ap (λ (l : List Prepared). l ++ kept (rec ∷ log) votes) (sym (ended (list_any (is_prepare_of v.tid v.server) log) (list_any (is_end_of v.tid) log))))
    by false is more = rw (is, no_vote v.tid v.server, ends v.tid, no_list v.tid, is) (ap (λ (l : List Prepared). kept_one log v ++ l) more)

-- a Commit with a list marks them
kept-listed : (tid : Tid) (node : NodeNo) (told : List NodeNo) (log : List Record) (votes : List Prepared)
    → kept log (map (mark_committed tid) votes) ≡ kept (records.Commit tid (node ∷ told) ∷ log) votes
kept-listed tid node told log [] = refl
kept-listed tid node told log (v ∷ votes) = by (same_tid v.tid tid) refl (list_any (is_listed_of v.tid) log) refl (kept-listed tid node told log votes)
  where
    by : (b : Bool) → same_tid v.tid tid ≡ b → (c : Bool) → list_any (is_listed_of v.tid) log ≡ c
        → kept log (map (mark_committed tid) votes) ≡ kept (records.Commit tid (node ∷ told) ∷ log) votes
        → kept log (map (mark_committed tid) (v ∷ votes)) ≡ kept (records.Commit tid (node ∷ told) ∷ log) (v ∷ votes)
    by true is true listed more = rw (is, listed) (ap (λ (l : List Prepared). (if not (list_any (is_prepare_of v.tid v.server) log) && not (list_any (is_end_of v.tid) log) then record v { committed = true } ∷ [] else []) ++ l) more)
    by true is false listed more = rw (is, listed) (ap (λ (l : List Prepared). (if not (list_any (is_prepare_of v.tid v.server) log) && not (list_any (is_end_of v.tid) log) then record v { committed = true } ∷ [] else []) ++ l) more)
    by false is c listed more = rw (is, listed) (ap (λ (l : List Prepared). (if not (list_any (is_prepare_of v.tid v.server) log) && not (list_any (is_end_of v.tid) log) then (if c then record v { committed = true } else v) ∷ [] else []) ++ l) more)

-- the vote itself
itself : (tid : Tid) (server : ServerNo) (covers : ℕ) (changes : List Op) (log : List Record)
    → kept_one log (record { tid = tid; server = server; covers = covers; changes = changes; committed = false }) ≡ open_at tid server covers changes log
itself tid server covers changes log = by (list_any (is_listed_of tid) log) refl
  where
    by : (c : Bool) → list_any (is_listed_of tid) log ≡ c → kept_one log (record { tid = tid; server = server; covers = covers; changes = changes; committed = false }) ≡ open_at tid server covers changes log
    by true is = rw is refl
    by false is = rw is refl

opened : (log : List Record) (said : Recovery) → (fold found_record said log).prepared ≡ kept log said.prepared ++ open_prepares log
opened [] said = sym (append-nil (kept [] said.prepared) ∙ kept-none said.prepared)
opened (records.Prepare tid server covers changes ∷ log) said =
    let v : Prepared = record { tid = tid; server = server; covers = covers; changes = changes; committed = false } in
    let before : List Prepared = filter (λ other. not (is_vote_of tid server other)) said.prepared in
    opened log (found_record said (records.Prepare tid server covers changes))
    ∙ ap (λ (l : List Prepared). l ++ open_prepares log) (kept-append log before (v ∷ []) ∙ ap (λ (l : List Prepared). kept log before ++ l) (append-nil (kept_one log v)))
    ∙ append_assoc (kept log before) (kept_one log v) (open_prepares log)
    ∙ ap (λ (l : List Prepared). l ++ (kept_one log v ++ open_prepares log)) (kept-prepare tid server covers changes log said.prepared)
    ∙ ap (λ (l : List Prepared). kept (records.Prepare tid server covers changes ∷ log) said.prepared ++ (l ++ open_prepares log)) (itself tid server covers changes log)
opened (records.Commit tid [] ∷ log) said =
    opened log (found_record said (records.Commit tid []))
    ∙ ap (λ (l : List Prepared). l ++ open_prepares log) (kept-end tid (records.Commit tid []) (λ t. refl) (λ t s. refl) (λ t. refl) log said.prepared)
opened (records.Commit tid (node ∷ told) ∷ log) said =
    opened log (found_record said (records.Commit tid (node ∷ told)))
    ∙ ap (λ (l : List Prepared). l ++ open_prepares log) (kept-listed tid node told log said.prepared)
opened (records.Aborted tid ∷ log) said =
    opened log (found_record said (records.Aborted tid))
    ∙ ap (λ (l : List Prepared). l ++ open_prepares log) (kept-end tid (records.Aborted tid) (λ t. refl) (λ t s. refl) (λ t. refl) log said.prepared)
opened (records.End tid ∷ log) said =
    opened log (found_record said (records.End tid))
    ∙ ap (λ (l : List Prepared). l ++ open_prepares log) (kept-end tid (records.End tid) (λ t. refl) (λ t s. refl) (λ t. refl) log said.prepared)

-- the votes that are not ended are those that stand open
pub prepared_open : (log : List Record) → (recovery log).prepared ≡ open_prepares log
prepared_open log = opened log nothing_said

-- ---- Commits

abbrev left : List Record → List Untold → List Untold
left log [] = []
left log (c ∷ commits) = (if not (list_any (is_end_of c.tid) log) then c ∷ [] else []) ++ left log commits

left-none : (commits : List Untold) → left [] commits ≡ commits
left-none [] = refl
left-none (c ∷ commits) = ap (λ (l : List Untold). c ∷ l) (left-none commits)

left-append : (log : List Record) (xs ys : List Untold) → left log (xs ++ ys) ≡ left log xs ++ left log ys
left-append log [] ys = refl
left-append log (c ∷ xs) ys = ap (λ (l : List Untold). (if not (list_any (is_end_of c.tid) log) then c ∷ [] else []) ++ l) (left-append log xs ys) ∙ sym (append_assoc (if not (list_any (is_end_of c.tid) log) then c ∷ [] else []) (left log xs) (left log ys))

left-end : (tid : Tid) (rec : Record) → ((t : Tid) → is_end_of t rec ≡ same_tid t tid) → (log : List Record) (commits : List Untold)
    → left log (filter (λ commit. not (is_untold_of tid commit)) commits) ≡ left (rec ∷ log) commits
left-end tid rec ends log [] = refl
left-end tid rec ends log (c ∷ commits) = by (same_tid c.tid tid) refl (left-end tid rec ends log commits)
  where
    by : (b : Bool) → same_tid c.tid tid ≡ b → left log (filter (λ commit. not (is_untold_of tid commit)) commits) ≡ left (rec ∷ log) commits
        → left log (filter (λ commit. not (is_untold_of tid commit)) (c ∷ commits)) ≡ left (rec ∷ log) (c ∷ commits)
    by true is more = rw (is, ends c.tid, is) more
    by false is more = rw (is, ends c.tid, is) (ap (λ (l : List Untold). (if not (list_any (is_end_of c.tid) log) then c ∷ [] else []) ++ l) more)

left-other : (rec : Record) → ((t : Tid) → is_end_of t rec ≡ false) → (log : List Record) (commits : List Untold) → left log commits ≡ left (rec ∷ log) commits
left-other rec ends log [] = refl
left-other rec ends log (c ∷ commits) = rw (ends c.tid) (ap (λ (l : List Untold). (if not (list_any (is_end_of c.tid) log) then c ∷ [] else []) ++ l) (left-other rec ends log commits))

told_open : (log : List Record) (said : Recovery) → (fold found_record said log).untold ≡ left log said.untold ++ open_commits log
told_open [] said = sym (append-nil (left [] said.untold) ∙ left-none said.untold)
told_open (records.Prepare tid server covers changes ∷ log) said =
    told_open log (found_record said (records.Prepare tid server covers changes))
    ∙ ap (λ (l : List Untold). l ++ open_commits log) (left-other (records.Prepare tid server covers changes) (λ t. refl) log said.untold)
told_open (records.Commit tid [] ∷ log) said =
    told_open log (found_record said (records.Commit tid []))
    ∙ ap (λ (l : List Untold). l ++ open_commits log) (left-end tid (records.Commit tid []) (λ t. refl) log said.untold)
told_open (records.Commit tid (node ∷ told) ∷ log) said =
    let c : Untold = record { tid = tid; told = node ∷ told } in
    told_open log (found_record said (records.Commit tid (node ∷ told)))
    ∙ ap (λ (l : List Untold). l ++ open_commits log) (left-append log said.untold (c ∷ []) ∙ ap (λ (l : List Untold). left log said.untold ++ l) (append-nil (if not (list_any (is_end_of tid) log) then c ∷ [] else [])))
    ∙ append_assoc (left log said.untold) (untold_at tid (node ∷ told) log) (open_commits log)
    ∙ ap (λ (l : List Untold). l ++ (untold_at tid (node ∷ told) log ++ open_commits log)) (left-other (records.Commit tid (node ∷ told)) (λ t. refl) log said.untold)
told_open (records.Aborted tid ∷ log) said =
    told_open log (found_record said (records.Aborted tid))
    ∙ ap (λ (l : List Untold). l ++ open_commits log) (left-end tid (records.Aborted tid) (λ t. refl) log said.untold)
told_open (records.End tid ∷ log) said =
    told_open log (found_record said (records.End tid))
    ∙ ap (λ (l : List Untold). l ++ open_commits log) (left-end tid (records.End tid) (λ t. refl) log said.untold)

-- the Commits that have still to be told are those that stand open
pub untold_open : (log : List Record) → (recovery log).untold ≡ open_commits log
untold_open log = told_open log nothing_said
