-- What is not ended, where a run may begin with it, is of transactions.
use Rattle.std.proofs.Common.{◌≡◌, refl, Bool, true, false, ◌&&◌, ◌||◌, not, List, [], ◌∷◌}
use Rattle.std.specs.List.{list_all, list_any}
use Rattle.qs_base.specs.Order.{same_tid}
use Rattle.qs_node_room.specs.Opens.{are_named, is_named_commit, is_named_vote}
use Rattle.qs_world_refine.proofs.SoundParts.{and_both, both_and}
use Rattle.qs_restart.specs.Recovery.{Prepared, Recovery, is_untold_of, names_transaction}
use Rattle.qs_world.specs.Openings.{are_unended, is_doubt, is_untold}

-- a Prepare in doubt
vote_named : (committed named rest : Bool) → (committed || (named && rest)) ≡ true → (committed || named) ≡ true
vote_named true named rest is = refl
vote_named false named rest is = (and_both named rest is).0

votes_named : (said : Recovery) (votes : List Prepared) → list_all (is_doubt said) votes ≡ true → list_all is_named_vote votes ≡ true
votes_named said [] all = refl
votes_named said (vote ∷ votes) all =
    let two = and_both (is_doubt said vote) (list_all (is_doubt said) votes) all in
    both_and (is_named_vote vote) (list_all is_named_vote votes)
    (vote_named vote.committed (names_transaction vote.tid) (not (list_any (is_untold_of vote.tid) said.untold) && not (list_any (same_tid vote.tid) said.committed)) two.0)
    (votes_named said votes two.1)

pub unended_named : (said : Recovery) → are_unended said ≡ true → are_named said ≡ true
unended_named said is =
    let two = and_both (list_all (is_doubt said) said.prepared) (list_all is_untold said.untold) is in
    both_and (list_all is_named_vote said.prepared) (list_all is_named_commit said.untold) (votes_named said said.prepared two.0) two.1
