-- What a batch leaves of the votes of a log: those that stood, with or without a Commit behind them now, and those of its own Prepares.
use Rattle.qs_world_runs.proofs.Words.{◌≡◌, ◌⊎◌, inl, inr, ◌++◌, Bool, true, false, not, List, [], ◌∷◌, fold, sym, subst, ◌∙◌, if◌then◌else◌, list_any-append, fold-append, same_tid, Tid, is_among, Record, Prepared, Recovery, found_record, mark_committed, names_transaction, nothing_said, recovery, Every, IsVoteLogged, every_on, every_append, every_filter, every_map, IsOfPrepare, or_left}
use Rattle.qs_record.specs.declared.record.Record.TheVariants as made
use Rattle.qs_restart.specs.Recovery.{is_of, is_vote_of}
use Rattle.qs_world_lawful.specs.Logs.{IsCutVote}
use Rattle.qs_world_runs.specs.CutVotes.{BatchLeavesVotes}

module _ (P : Prepared → Type 0) (unmarked : (tid : Tid) (vote : Prepared) → P vote → P (mark_committed tid vote)) where
  one_record : (said : Recovery) (rec : Record) → IsOfPrepare P rec → Every P said.prepared → Every P (found_record said rec).prepared
  one_record said (made.Prepare tid server covers changes) own all = every_append P _ _ (every_filter P (λ other. not (is_vote_of tid server other)) said.prepared all) (own, tt)
  one_record said (made.Commit tid []) own all = every_filter P (λ vote. not (is_of tid vote)) said.prepared all
  one_record said (made.Commit tid (node ∷ told)) own all = every_map P P (mark_committed tid) (unmarked tid) said.prepared all
  one_record said (made.Aborted tid) own all = every_filter P (λ vote. not (is_of tid vote)) said.prepared all
  one_record said (made.End tid) own all = every_filter P (λ vote. not (is_of tid vote)) said.prepared all

  each_record : (records : List Record) (said : Recovery) → Every (IsOfPrepare P) records → Every P said.prepared → Every P (fold found_record said records).prepared
  each_record [] said own all = all
  each_record (rec ∷ records) said own all = each_record records (found_record said rec) own.1 (one_record said rec own.0 all)

pub among_one : (tid : Tid) (said : Recovery) (rec : Record) → is_among said.committed tid ≡ true → is_among (found_record said rec).committed tid ≡ true
among_one tid said (made.Prepare t server covers changes) is = is
among_one tid said (made.Commit t []) is = list_any-append (same_tid tid) said.committed (if names_transaction t then t ∷ [] else []) ∙ or_left _ _ is
among_one tid said (made.Commit t (node ∷ told)) is = list_any-append (same_tid tid) said.committed (if names_transaction t then t ∷ [] else []) ∙ or_left _ _ is
among_one tid said (made.Aborted t) is = is
among_one tid said (made.End t) is = is

pub among_all : (tid : Tid) (records : List Record) (said : Recovery) → is_among said.committed tid ≡ true → is_among (fold found_record said records).committed tid ≡ true
among_all tid [] said is = is
among_all tid (rec ∷ records) said is = among_all tid records (found_record said rec) (among_one tid said rec is)

pub batch_leaves_votes : BatchLeavesVotes
batch_leaves_votes n book state disk waiting records kept own = subst (λ (said : Recovery). Every (λ (vote : Prepared). IsVoteLogged n book state said vote ⊎ IsCutVote n book state vote) said.prepared) (sym whole)
    (each_record P unmarked records said (every_on (IsOfPrepare (IsCutVote n book state)) (IsOfPrepare P) lifts records own) (every_on (IsVoteLogged n book state said) P (λ vote v. inl (later vote v)) said.prepared kept))
  where
    said : Recovery
    said = recovery (disk ++ waiting)

    last : Recovery
    last = fold found_record said records

    whole : recovery ((disk ++ waiting) ++ records) ≡ last
    whole = fold-append found_record nothing_said (disk ++ waiting) records

    P : Prepared → Type 0
    P vote = IsVoteLogged n book state last vote ⊎ IsCutVote n book state vote

    later : (vote : Prepared) → IsVoteLogged n book state said vote → IsVoteLogged n book state last vote
    later vote (inl on) = inl on
    later vote (inr applied) = inr (record { tx = applied.tx; found = applied.found; has_commit = among_all vote.tid records said applied.has_commit; learnt = applied.learnt })

    unmarked : (tid : Tid) (vote : Prepared) → P vote → P (mark_committed tid vote)
    unmarked tid vote p = by (is_of tid vote)
      where
        marked : P vote → P (record vote { committed = true })
        marked (inl (inl on)) = inl (inl on)
        marked (inl (inr applied)) = inl (inr (record { tx = applied.tx; found = applied.found; has_commit = applied.has_commit; learnt = applied.learnt }))
        marked (inr cut) = inr (record { tx = cut.tx; found = cut.found; could = cut.could })

        by : (b : Bool) → P (if b then record vote { committed = true } else vote)
        by true = marked p
        by false = p

    lifts : (rec : Record) → IsOfPrepare (IsCutVote n book state) rec → IsOfPrepare P rec
    lifts (made.Prepare tid server covers changes) cut = inr cut
    lifts (made.Commit tid told) cut = tt
    lifts (made.Aborted tid) cut = tt
    lifts (made.End tid) cut = tt
