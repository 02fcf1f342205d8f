-- A restart that finds nothing of what is over is lawful where one that finds all is, and does the same.
use Rattle.std.proofs.Common.{◌≡◌, ◌∙◌, ℕ, Bool, true, false, List, [], ◌∷◌, ◌++◌, refl, sym, ap, fold, Option, Some, None}
use Rattle.std.specs.Prelude.{not, slice_get, slice_set, if◌then◌else◌}
use Rattle.std.specs.List.{filter, list_all, flat_map}
use Rattle.std.specs.Map.{lookup}
use Rattle.std.specs.BTreeMap.{is_at}
use Rattle.std.proofs.lemmas.Bool.{not-true, not_from_false}
use Rattle.qs_base.specs.declared.identifiers.Tid.{Tid}
use Rattle.qs_base_lemmas.proofs.Tests.{and_first, and_last, some_same}
use Rattle.qs_book_journal.specs.declared.entry.Found.{Found}
use Rattle.qs_book_machine.specs.Restart.{is_among, is_new_vote, vote_as_stopped, new_vote, new_votes_at, new_votes, with_vote, with_votes, is_open_here, restart_found, put_new_votes, restart}
use Rattle.qs_book_machine.specs.Book.{BookValue, find_transaction, with_node, changed_at}
use Rattle.qs_book_machine.specs.Nodes.{NodeValue, voter, voter_cmp}
use Rattle.qs_book_machine.specs.declared.state.OnRecord.{OnRecord}
use Rattle.qs_book_machine.specs.declared.state.Voter.{Voter}
use Rattle.qs_book_laws.proofs.Alikes.{voter_exact}
use Rattle.qs_book_laws.proofs.Maps.{changed_at_here}
use Rattle.qs_world_forgetting.specs.ThinRestarts.{EachThinRestart}
use Rattle.qs_world_forgetting.proofs.Keyed.{none_listed, all_put}
use Rattle.qs_world_forgetting.proofs.ThinDoes.{thin_does}
use Rattle.qs_world_forgetting.proofs.ThinLawful.{thin_lawful}

module _ (here : ℕ) (b : BookValue) (over : Tid → Bool) (pend : List Found) (done fewer : List Tid)
    (same : filter (λ (t : Tid). not (over t)) fewer ≡ filter (λ (t : Tid). not (over t)) done)
    (all : (t : Tid) → over t ≡ true → is_among done t ≡ true)
    (nobody : (n : NodeValue) → slice_get b.nodes here ≡ Some n → list_all (λ (entry : Voter × OnRecord). not (over entry.0.tid)) n.records ≡ true)
    (closed : (t : Tid) → over t ≡ true → is_open_here here t (find_transaction b t) ≡ false)
    (stale : (n : NodeValue) (f : Found) → slice_get b.nodes here ≡ Some n → over f.tid ≡ true → is_new_vote here n (find_transaction b f.tid) f ≡ false) where
  abbrev thinned : List Found
  thinned = filter (λ (f : Found). not (over f.tid)) pend

  abbrev is_clear : NodeValue → Bool
  is_clear n = list_all (λ (entry : Voter × OnRecord). not (over entry.0.tid)) n.records

  fresh_votes : (n : NodeValue) → slice_get b.nodes here ≡ Some n → (founds : List Found) → flat_map (new_vote here b n) (filter (λ (f : Found). not (over f.tid)) founds) ≡ flat_map (new_vote here b n) founds
  fresh_votes n there [] = refl
  fresh_votes n there (f ∷ founds) = by (over f.tid) refl (fresh_votes n there founds)
    where
      by : (c : Bool) → over f.tid ≡ c → flat_map (new_vote here b n) (filter (λ (g : Found). not (over g.tid)) founds) ≡ flat_map (new_vote here b n) founds
          → flat_map (new_vote here b n) (filter (λ (g : Found). not (over g.tid)) (f ∷ founds)) ≡ flat_map (new_vote here b n) (f ∷ founds)
      by true is more = rw is (more ∙ sym (ap (λ (c : Bool). (if c then (voter f.tid f.server.0, vote_as_stopped here b n f) ∷ [] else []) ++ flat_map (new_vote here b n) founds) (stale n f there is)))
      by false is more = rw is (ap (λ (l : List (Voter × OnRecord)). new_vote here b n f ++ l) more)

  fresh_same : new_votes here b thinned ≡ new_votes here b pend
  fresh_same = by (slice_get b.nodes here) refl
    where
      by : (o : Option NodeValue) → slice_get b.nodes here ≡ o → new_votes_at here b o thinned ≡ new_votes_at here b o pend
      by None is = refl
      by (Some n) is = fresh_votes n is pend

  put_clear : (n : NodeValue) → slice_get b.nodes here ≡ Some n → (founds : List Found) (m : NodeValue) → is_clear m ≡ true → is_clear (fold with_vote m (flat_map (new_vote here b n) founds)) ≡ true
  put_clear n there [] m h = h
  put_clear n there (f ∷ founds) m h = by (is_new_vote here n (find_transaction b f.tid) f) refl (λ k clear. put_clear n there founds k clear)
    where
      young : is_new_vote here n (find_transaction b f.tid) f ≡ true → (c : Bool) → over f.tid ≡ c → c ≡ false
      young is false on = refl
      young is true on = absurd (let clash : true ≡ false = sym is ∙ stale n f there on in cc clash)

      by : (c : Bool) → is_new_vote here n (find_transaction b f.tid) f ≡ c → ((k : NodeValue) → is_clear k ≡ true → is_clear (fold with_vote k (flat_map (new_vote here b n) founds)) ≡ true)
          → is_clear (fold with_vote m ((if c then (voter f.tid f.server.0, vote_as_stopped here b n f) ∷ [] else []) ++ flat_map (new_vote here b n) founds)) ≡ true
      by false is more = more m h
      by true is more = more (with_vote m (voter f.tid f.server.0, vote_as_stopped here b n f))
          (all_put (λ (v : Voter). not (over v.tid)) (voter f.tid f.server.0) (vote_as_stopped here b n f) (not_from_false (over f.tid) (young is (over f.tid) refl)) m.records h)

  -- what is at the place after a change there comes from what was there
  changed_comes : (i : ℕ) (g : NodeValue → NodeValue) (ns : List NodeValue) (m : NodeValue) → slice_get (changed_at i g ns) i ≡ Some m → (n : NodeValue) × (slice_get ns i ≡ Some n) × (m ≡ g n)
  changed_comes i g ns m h = by (slice_get ns i) refl h
    where
      by : (o : Option NodeValue) → slice_get ns i ≡ o → slice_get (elim o [ None ↦ ns | Some x ↦ slice_set ns i (g x) ]) i ≡ Some m → (n : NodeValue) × (slice_get ns i ≡ Some n) × (m ≡ g n)
      by None is e = absurd (cc (sym is ∙ e))
      by (Some k) is e = (k, is, some_same (sym h ∙ changed_at_here g ns i k is))

  put : BookValue
  put = put_new_votes here pend b

  put_nobody : (m : NodeValue) → slice_get put.nodes here ≡ Some m → is_clear m ≡ true
  unfolding put
  put_nobody m there =
      let w = changed_comes here (with_votes (new_votes here b pend)) b.nodes m there in
      ap is_clear w.2 ∙ of w.0 w.1
    where
      of : (n : NodeValue) → slice_get b.nodes here ≡ Some n → is_clear (with_votes (new_votes here b pend) n) ≡ true
      of n at = ap (λ (o : Option NodeValue). is_clear (fold with_vote n (new_votes_at here b o pend))) at ∙ put_clear n at pend n (nobody n at)

  absent : (es : List (Voter × OnRecord)) (t : Tid) (s : ℕ) → over t ≡ true → list_all (λ (entry : Voter × OnRecord). not (over entry.0.tid)) es ≡ true → lookup (is_at (voter_cmp (voter t s))) es ≡ None
  absent [] t s on h = refl
  absent (e ∷ es) t s on h = by (is_at (voter_cmp (voter t s)) e.0) refl (absent es t s on (and_last (not (over e.0.tid)) _ h))
    where
      by : (c : Bool) → is_at (voter_cmp (voter t s)) e.0 ≡ c → lookup (is_at (voter_cmp (voter t s))) es ≡ None → lookup (is_at (voter_cmp (voter t s))) (e ∷ es) ≡ None
      by true is more = absurd (let clash : true ≡ false = sym on ∙ (ap (λ (v : Voter). over v.tid) (voter_exact (voter t s) e.0 is) ∙ not-true _ (and_first (not (over e.0.tid)) _ h)) in cc clash)
      by false is more = rw is more

  -- a restart that finds less does the same
  pub thin_restarts : (inc : ℕ) → restart here inc thinned fewer b ≡ restart here inc pend done b
  unfolding put
  thin_restarts inc =
      ap (λ (l : List (Voter × OnRecord)). restart_found here inc thinned fewer (with_node here (with_votes l) b)) fresh_same
      ∙ thin_does here (put_new_votes here pend b) over pend done fewer same all (λ n t s there on. absent n.records t s on (put_nobody n there)) put_nobody closed inc

-- ---- both

pub each_thin_restart : EachThinRestart
each_thin_restart here book node over inc pend done fewer there are thin lawful = (
  thin_lawful here book node over pend done fewer thin.same thin.within listed inc lawful,
  thin_restarts here book over pend done fewer thin.same thin.whole (λ n at. ap (λ (m : NodeValue). list_all (λ (entry : Voter × OnRecord). not (over entry.0.tid)) m.records) (sym (the n at)) ∙ listed) are.closed
      (λ n vote at on. ap (λ (m : NodeValue). is_new_vote here m (find_transaction book vote.tid) vote) (sym (the n at)) ∙ are.stale vote on) inc,
)
  where
    listed : list_all (λ (entry : Voter × OnRecord). not (over entry.0.tid)) node.records ≡ true
    listed = none_listed over node.records are.unrecorded

    the : (n : NodeValue) → slice_get book.nodes here ≡ Some n → node ≡ n
    the n at = some_same (sym there ∙ at)
