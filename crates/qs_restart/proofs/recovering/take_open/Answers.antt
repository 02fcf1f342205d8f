use Rattle.std.proofs.Common.{◌≡◌, ◌∙◌, ◌++◌, length, drop, List, sym, ap, append-nil, arith}
use Rattle.std.proofs.Math.ListN.{drop_of_length-le}
use Rattle.qs_record.specs.declared.record.Record.{Record}
use Rattle.qs_restart.proofs.Gathered.{all_votes, all_doubts, all_untold, votes_on, doubts_on, untold_on, votes_in, doubts_in, untold_in}
use Rattle.qs_restart.proofs.recovering.take_open.Goals as goal

pub loop-at-preserved : goal.loop-at-preserved
loop-at-preserved c =
    let p = c.args.places.now.prepares.entries in
    let l = c.args.places.now.listed.entries in
    let e = c.args.places.now.ends.entries in
    let log = c.args.records.now in
    let i = c.loop-at.at in
    let rec = c.index-records-at.result in
    record {
      votes = votes_on p l e log c.requires.places i c.loop-at-test.true rec (sym c.index-records-at.is) c.loop-at.found.votes c.take_if_open.new.found.votes c.in_ok-take_if_open.ensures.votes c.loop-at.invariant.votes;
      in_doubt = doubts_on p l e log c.requires.places i c.loop-at-test.true rec (sym c.index-records-at.is) c.loop-at.found.in_doubt c.take_if_open.new.found.in_doubt c.in_ok-take_if_open.ensures.in_doubt c.loop-at.invariant.in_doubt;
      untold = untold_on p l e log c.requires.places i c.loop-at-test.true rec (sym c.index-records-at.is) c.loop-at.found.untold c.take_if_open.new.found.untold c.in_ok-take_if_open.ensures.untold c.loop-at.invariant.untold;
      files = c.take_if_open.ensures.files ∙ c.loop-at.invariant.files;
      audit = c.take_if_open.ensures.audit ∙ c.loop-at.invariant.audit;
      extra = c.take_if_open.ensures.extra ∙ c.loop-at.invariant.extra;
      committed = c.take_if_open.ensures.committed ∙ c.loop-at.invariant.committed;
    }

pub returns-clause-votes : goal.returns-clause-votes
returns-clause-votes c =
    sym (append-nil c.loop-at.found.votes) ∙ ap (λ (l : List Record). c.loop-at.found.votes ++ votes_in l) (sym (drop_of_length-le c.args.records.now c.loop-at-test.false)) ∙ c.loop-at.invariant.votes ∙ all_votes c.args.records.now

pub returns-clause-in_doubt : goal.returns-clause-in_doubt
returns-clause-in_doubt c =
    sym (append-nil c.loop-at.found.in_doubt) ∙ ap (λ (l : List Record). c.loop-at.found.in_doubt ++ doubts_in l) (sym (drop_of_length-le c.args.records.now c.loop-at-test.false)) ∙ c.loop-at.invariant.in_doubt ∙ all_doubts c.args.records.now

pub returns-clause-untold : goal.returns-clause-untold
returns-clause-untold c =
    sym (append-nil c.loop-at.found.untold) ∙ ap (λ (l : List Record). c.loop-at.found.untold ++ untold_in l) (sym (drop_of_length-le c.args.records.now c.loop-at-test.false)) ∙ c.loop-at.invariant.untold ∙ all_untold c.args.records.now
