use Rattle.std.proofs.Common.{Result, Ok, Err, ◌≡◌, sym, subst}
use Rattle.std.specs.Prelude.{OnOk, OnErr, List}
use Rattle.qs_base.specs.declared.identifiers.Tid.{Tid}
use Rattle.qs_ops.specs.declared.share.Share.{Share}
use Rattle.qs_book_tables.specs.Held.{FollowShares}
use Rattle.qs_book_tables.proofs.ShareSteps.{follow_voted}
use Rattle.qs_book_tables.proofs.serving.vote_locked.Goals as goal

-- what holds of both values holds of the one that it is
either : {T E : Type 0} (r : Result T E) (P : List (Tid × Share) → Type 0) (a b x : List (Tid × Share)) → OnOk r (x ≡ a) → OnErr r (x ≡ b) → P a → P b → P x
either (Ok t) P a b x ok err pa pb = subst P (sym ok) pa
either (Err e) P a b x ok err pa pb = subst P (sym err) pb

pub returns-clause-follows : goal.returns-clause-follows
returns-clause-follows c =
    either c.set_vote.result (λ es. FollowShares c.args.locks.now es) _ _ c.set_vote.new.shares.entries c.set_vote.ensures.ok c.set_vote.ensures.err
    (follow_voted c.args.locks.now c.args.shares.now.entries c.args.tid c.args.voted c.set_vote.ensures.ordered c.requires.follows) c.requires.follows
