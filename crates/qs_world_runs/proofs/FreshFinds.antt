-- What begins in a step finds what it needs there: nothing of it comes, no server votes on it and no borrower has a request of it issued.
use Rattle.qs_world_runs.proofs.Words.{◌≡◌, inl, inr, ℕ, true, false, List, [], ◌∷◌, ClientNo, Tid, KeptLabel, BookValue, due_tids, settle, settle_tid, Work, is_owner, wait_on, waiting_clients, taken_by, IsDoomed, AtEach, done_work, book_in, Field, field_of, taken, PassesWell, WaitsWell}
use Rattle.qs_world_runs.specs.BegunBare.{IsBegunBare, NotBorrowed, NotDue}
use Rattle.qs_world_runs.specs.PlacesGo.{IsObeyed}
use Rattle.qs_world_runs.specs.PlacesSteps.{FreshFind}
use Rattle.qs_world_runs.proofs.BegunDone.{begun_is_bare}
use Rattle.qs_world_runs.proofs.ComesUnknown.{commands_unbegun, comes_unknown}

module _ (D : Type 0) (t : Tid) (base : Field) (knows : ℕ → ℕ) (n stamp : ℕ) (before : BookValue) where
  none_voted : (tids : List Tid) (work : Work) → AtEach (λ (w : Work) (tid : Tid). NotDue t w) settle_tid work tids → AtEach (λ (w : Work) (tid : Tid). tid ≡ t → PassesWell D t base knows n stamp before w) settle_tid work tids
  none_voted [] work idle = tt
  none_voted (tid ∷ tids) work idle = (λ same part known undecided due. absurd (let off = idle.0 part known in cc (due, off)), none_voted tids (settle_tid work tid) idle.1)

  none_issued : (clients : List ClientNo) (work : Work) → AtEach (λ (w : Work) (client : ClientNo). NotBorrowed t w) wait_on work clients → AtEach (WaitsWell D t base knows n stamp before) wait_on work clients
  none_issued [] work bare = tt
  none_issued (client ∷ clients) work bare = (
    λ command found goes begun member op number named its obeyed asks next. absurd (never begun (goes.lent begun named) obeyed),
    none_issued clients (wait_on work client) bare.1,
  )
    where
      never : (begun : KeptLabel) → is_owner client begun.owner ≡ false → IsObeyed t client begun work → ⊥
      never begun other (inl own) = let on : is_owner client begun.owner ≡ true = own.0 in cc (on, other)
      never begun other (inr lent) = bare.0 client lent.1.0 lent.1.1 lent.1.2 lent.1.3

pub fresh_find : FreshFind
fresh_find w t o world n stamp free source event j makes lawful at unbegun none =
    let bare : IsBegunBare t world n free event = begun_is_bare t world n stamp free source event j.shown makes at unbegun in
    record {
      comes = comes_unknown w t o world n stamp free source event j makes none (commands_unbegun w t world n stamp free (book_in o world) source event j.shown makes unbegun);
      settles = none_voted (IsDoomed w) t (field_of (taken world n source)) ((taken_by world n source).peer n) n stamp (book_in o world) (due_tids (done_work (world.hosts n).node event free)) (done_work (world.hosts n).node event free) bare.turns;
      waits = none_issued (IsDoomed w) t (field_of (taken world n source)) ((taken_by world n source).peer n) n stamp (book_in o world) (waiting_clients (settle (done_work (world.hosts n).node event free))) (settle (done_work (world.hosts n).node event free)) bare.waits;
    }
