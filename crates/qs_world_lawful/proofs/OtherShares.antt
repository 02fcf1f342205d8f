-- What is removed, put, voted or noted of one transaction in a table leaves what every other holds there.
use Rattle.qs_world_lawful.proofs.Words.{◌≡◌, Bool, true, false, List, [], ◌∷◌, Option, refl, ap, unwrap_or, lookup, remove_entry, is_at, tid_cmp, Tid, tid_exact, lookup_put_apart, voted_in, noted_in, TableValue, share_of, nothing_held, released, with_share, applied, Share, Notice, Vote}
use Rattle.qs_ops.specs.declared.vote.Notice.TheVariants as notices
use Rattle.qs_ops.specs.declared.vote.Vote.TheVariants as votes
use Rattle.qs_world_lawful.proofs.Apart.{Apart}

pub removed_apart : {K X : Type 0} (p q : K → Bool) → ((k : K) → q k ≡ true → p k ≡ false) → (es : List (K × X)) → lookup q (remove_entry p es) ≡ lookup q es
removed_apart p q apart [] = refl
removed_apart p q apart (e ∷ es) = by (p e.0) (q e.0) refl refl (removed_apart p q apart es)
  where
    by : (b c : Bool) → p e.0 ≡ b → q e.0 ≡ c → lookup q (remove_entry p es) ≡ lookup q es → lookup q (remove_entry p (e ∷ es)) ≡ lookup q (e ∷ es)
    by true true is has more = absurd (cc (is, apart e.0 has))
    by true false is has more = rw (is, has) refl
    by false true is has more = rw (is, has) refl
    by false false is has more = rw (is, has) more

-- ---- tables

pub share_put : (tid t : Tid) (share : Share) (table : TableValue) → Apart tid t → share_of (with_share table tid share) t ≡ share_of table t
share_put tid t share table far = ap (λ (o : Option Share). unwrap_or o nothing_held) (lookup_put_apart tid_cmp tid share (tid_exact tid) (is_at (tid_cmp t)) far.at table.shares)

share_removed : (tid t : Tid) (table : TableValue) → Apart tid t → share_of (released table tid) t ≡ share_of table t
share_removed tid t table far = ap (λ (o : Option Share). unwrap_or o nothing_held) (removed_apart (is_at (tid_cmp tid)) (is_at (tid_cmp t)) far.keys table.shares)

pub share_voted : (tid t : Tid) (ballot : Vote) (table : TableValue) → Apart tid t → share_of (voted_in table tid ballot) t ≡ share_of table t
share_voted tid t votes.ReadOnly table far = share_removed tid t table far
share_voted tid t votes.Volatile table far = share_put tid t _ table far
share_voted tid t votes.Recoverable table far = refl
share_voted tid t (votes.Abort reason) table far = share_put tid t _ table far

pub share_noted : (tid t : Tid) (notice : Notice) (table : TableValue) → Apart tid t → share_of (noted_in notice tid table) t ≡ share_of table t
share_noted tid t notices.Commit table far = share_removed tid t (applied table (share_of table tid).changes) far
share_noted tid t notices.Abort table far = share_removed tid t table far
share_noted tid t notices.Ending table far = refl
