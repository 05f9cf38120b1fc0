-- Worked runs: requests for memory that are refused, and a port that is.
use Rattle.std.proofs.Common.{◌≡◌, ℕ, zero, suc, true, false, List, [], ◌∷◌, refl, subst, inl, inr, None, Some}
use Rattle.std.specs.Prelude.{slice_get}
use Rattle.std.proofs.lemmas.Option.{none-some, same_Some}
use Rattle.iox2_machine.specs.machine.State.{State, Messages, fresh, no_messages}
use Rattle.iox2_machine.specs.machine.Delivery.{Accepted, Complete}
use Rattle.iox2_machine.specs.machine.Sends.{Delivered_to}
use Rattle.iox2_machine.specs.machine.Receives.{Got_sample, No_sample}
use Rattle.iox2_machine.specs.declared.allocation.AllocationStrategy.TheVariants.{Static, BestFit}
use Rattle.iox2_machine.specs.declared.service_config.ServiceConfig.{ServiceConfig}
use Rattle.iox2_machine.specs.declared.errors.PublisherCreateError.TheVariants.{ExceedsMaxSupportedPublishers}
use Rattle.iox2_machine.specs.declared.backpressure.BackpressureStrategy.TheVariants.{DiscardData}
use Rattle.iox2_machine.specs.declared.degradation.DegradationAction.TheVariants.{Warn, DegradeAndFail}
use Rattle.iox2_machine.specs.declared.errors.ConnectionFailure.TheVariants.{FailedToEstablishConnection}
use Rattle.iox2_machine.specs.declared.errors.ZeroCopyCreationError.TheVariants.{OutOfMemory}
use Rattle.iox2_machine.specs.declared.warning.Warning.TheVariants.{ConnectionNotMade, PublisherPartlyConnected}
use Rattle.iox2_commands.specs.Isolation.{makes_independent_publisher}
use Rattle.iox2_commands.specs.Outcomes.{Event, Handle}
use Rattle.iox2_commands.specs.Refusals.{PublishersAreStatic, TellNoRefusal}
use Rattle.iox2_commands.specs.Views.{SameView}
use Rattle.iox2_commands.specs.declared.new_publisher.NewPublisher.{NewPublisher}
use Rattle.iox2_commands.specs.declared.command.Command.{Command}
use Rattle.iox2_commands.specs.declared.reply.Reply.{Reply}
use Rattle.iox2_commands.proofs.RefusalRuns.{isolated_without_refusals}
use Rattle.iox2_machine.specs.machine.Environments.{fixed_handlers}
use Rattle.iox2_commands.specs.NewPublishers.{publisher_with}
use Rattle.iox2_commands.specs.Runs.{Run, RunTo, only_defaults}
use Rattle.iox2_commands.specs.declared.command.Command.TheVariants.{Nothing, Close, CreatePublisher, CreateSubscriber}
use Rattle.iox2_commands.specs.declared.command.Command.TheVariants.{SendCopy, Receive, Read}
use Rattle.iox2_commands.specs.declared.reply.Reply.TheVariants.{Done, PublisherMade, PublisherRefused, SubscriberMade}
use Rattle.iox2_commands.specs.declared.reply.Reply.TheVariants.{Delivered, Sample, NoSample, Cell}
use Rattle.iox2_commands.proofs.WorkedRunDomains.{domain, ◌▸◌}

-- Memory for a connection is refused to a new subscriber, which is made all the same, and that is counted. Its
-- publisher connects by the next send, and it receives the message after its own next update.
pub unconnected_subscriber_connects_later : (events : List (Event ℕ ℕ)) × (m : Messages ℕ ℕ) × (s : State ℕ ℕ)
    × Run fixed_handlers (only_defaults 0 0) no_messages (fresh (domain 2 1 2 1 0 1 false))
    (CreatePublisher (publisher_with 1 DiscardData) ∷ CreateSubscriber (Some 2) Warn ∷ SendCopy 0 1 ∷ Receive 1 ∷
    CreatePublisher (publisher_with 1 DiscardData) ∷ Receive 1 ∷ Read 5 0 ∷ [])
    (PublisherMade 1 ∷ SubscriberMade 2 ∷ Delivered 1 ∷ NoSample ∷ PublisherMade 3 ∷ Sample 1 ∷ Cell (Some 1) ∷ [])
    events m s
    × (s.warnings ≡ record { latest = ConnectionNotMade 1 2 ∷ []; refused_connections = 1 })
unconnected_subscriber_connects_later = (
  _ ∷ _ ∷ _ ∷ _ ∷ _ ∷ _ ∷ _ ∷ [],
  _,
  _,
  (
    _,
    (_, (_, None, (_, None, (_, (refl, refl), refl), refl), refl), refl, refl) ▸ (
      _,
      (
        _,
        None,
        (
          _,
          None,
          (
            _,
            (
              _,
              None,
              None,
              (_, None, None, inr (refl, _, (Warn, tt, refl, refl, refl), refl), (refl, refl), refl),
              (_, None, None, (refl, refl), (refl, refl), refl),
              refl,
            ),
            refl,
          ),
          refl,
        ),
        refl,
      ),
      refl,
      refl,
    ) ▸ (
      _,
      (
        _,
        None,
        (_, (refl, refl), refl),
        (
          _,
          Delivered_to 1,
          (
            _,
            None,
            (_, (_, None, None, inl (refl, refl), (refl, refl), refl), refl),
            (Complete 1 false, _, (Accepted, _, (_, (refl, refl), refl), (refl, refl)), (refl, refl)),
          ),
          refl,
        ),
      ),
      refl,
      refl,
    ) ▸
        (_, (_, No_sample, (_, None, (refl, refl), (refl, refl)), refl), refl, refl) ▸ (
          _,
          (_, None, (_, None, (_, (_, None, None, inl (refl, refl), (refl, refl), refl), refl), refl), refl),
          refl,
          refl,
        ) ▸ (
          _,
          (
            _,
            Got_sample 1 1,
            (
              _,
              None,
              (
                _,
                (
                  _,
                  None,
                  None,
                  (_, None, None, inl (refl, refl), (_, None, None, inl (refl, refl), (refl, refl), refl), refl),
                  (_, None, None, (refl, refl), (_, None, None, (refl, refl), (refl, refl), refl), refl),
                  refl,
                ),
                refl,
              ),
              ((refl, refl), _, ([], refl, refl), refl),
            ),
            refl,
          ),
          refl,
          refl,
        ) ▸
        (_, refl, refl, refl) ▸
        (refl, refl, refl),
  ),
  refl,
)

-- Memory for a connection is refused to a new publisher, which is made all the same, with a warning of the failure;
-- that is counted, though its handler doesn't warn. It connects when the next subscriber comes.
pub unconnected_publisher_connects_later : (events : List (Event ℕ ℕ)) × (m : Messages ℕ ℕ) × (s : State ℕ ℕ)
    × Run fixed_handlers (only_defaults 0 0) no_messages (fresh (domain 1 2 1 1 0 1 false))
    (CreateSubscriber (Some 1) DegradeAndFail ∷ CreatePublisher
    (record (publisher_with 1 DiscardData) { degradation = DegradeAndFail }) ∷ SendCopy 1 1 ∷ Receive 0 ∷
    CreateSubscriber (Some 1) DegradeAndFail ∷ SendCopy 1 2 ∷ Receive 0 ∷ Read 6 0 ∷ [])
    (SubscriberMade 1 ∷ PublisherMade 2 ∷ Delivered 0 ∷ NoSample ∷ SubscriberMade 3 ∷ Delivered 2 ∷ Sample 2 ∷ Cell
    (Some 2) ∷ [])
    events m s
    × (s.warnings ≡ record {
      latest = PublisherPartlyConnected 2 (FailedToEstablishConnection OutOfMemory) ∷ [];
      refused_connections = 1;
    })
unconnected_publisher_connects_later = (
  _ ∷ _ ∷ _ ∷ _ ∷ _ ∷ _ ∷ _ ∷ _ ∷ [],
  _,
  _,
  (
    _,
    (_, (_, None, (_, None, (_, (_, None, None, (refl, refl), (refl, refl), refl), refl), refl), refl), refl, refl) ▸ (
      _,
      (
        _,
        None,
        (
          _,
          Some (FailedToEstablishConnection OutOfMemory),
          (
            _,
            (
              _,
              Some (FailedToEstablishConnection OutOfMemory),
              None,
              inr (refl, _, (DegradeAndFail, tt, refl, refl, refl), refl),
              (refl, refl),
              refl,
            ),
            refl,
          ),
          refl,
        ),
        refl,
      ),
      refl,
      refl,
    ) ▸ (
      _,
      (
        _,
        None,
        (_, (refl, refl), refl),
        (
          _,
          Delivered_to 0,
          (_, None, (refl, refl), (Complete 0 false, _, (refl, refl), (refl, refl))),
          refl,
        ),
      ),
      refl,
      refl,
    ) ▸ (
      _,
      (
        _,
        No_sample,
        (
          _,
          None,
          (
            _,
            (
              _,
              None,
              None,
              (_, None, None, inl (refl, refl), (refl, refl), refl),
              (_, None, None, (refl, refl), (refl, refl), refl),
              refl,
            ),
            refl,
          ),
          (refl, refl),
        ),
        refl,
      ),
      refl,
      refl,
    ) ▸ (
      _,
      (
        _,
        None,
        (
          _,
          None,
          (
            _,
            (
              _,
              None,
              None,
              (_, None, None, inl (refl, refl), (refl, refl), refl),
              (_, None, None, (refl, refl), (refl, refl), refl),
              refl,
            ),
            refl,
          ),
          refl,
        ),
        refl,
      ),
      refl,
      refl,
    ) ▸ (
      _,
      (
        _,
        None,
        (_, (refl, refl), refl),
        (
          _,
          Delivered_to 2,
          (
            _,
            None,
            (
              _,
              (_, None, None, inl (refl, refl), (_, None, None, inl (refl, refl), (refl, refl), refl), refl),
              refl,
            ),
            (
              Complete 2 false,
              _,
              (
                Accepted,
                _,
                (_, (refl, refl), refl),
                (Accepted, _, (_, (refl, refl), refl), (refl, refl)),
              ),
              (refl, refl),
            ),
          ),
          refl,
        ),
      ),
      refl,
      refl,
    ) ▸
        (_, (_, Got_sample 2 2, (_, None, (refl, refl), ((refl, refl), _, ([], refl, refl), refl)), refl), refl, refl) ▸
        (_, refl, refl, refl) ▸
        (refl, refl, refl),
  ),
  refl,
)

-- ---- a publisher that is refused has no memory that might grow

-- There is one publisher at most. A message is sent to two subscribers, and the first receives it, or doesn't. The
-- second publisher, whose memory would grow, is refused.
abbrev pub one_publisher : ServiceConfig
one_publisher = domain 1 2 1 1 0 0 false

abbrev pub asked_for : Command ℕ ℕ → List (Command ℕ ℕ)
asked_for other =
    CreateSubscriber None Warn ∷ CreateSubscriber None Warn ∷ CreatePublisher (publisher_with 1 DiscardData) ∷
    CreatePublisher (record (publisher_with 1 DiscardData) { allocation = BestFit }) ∷ SendCopy 2 1 ∷ other ∷ []

abbrev pub replied_with : Reply ℕ ℕ → List (Reply ℕ ℕ)
replied_with other =
    SubscriberMade 1 ∷ SubscriberMade 2 ∷ PublisherMade 3 ∷ PublisherRefused ExceedsMaxSupportedPublishers ∷ Delivered 2
    ∷ other ∷ []

-- it holds of each two that stand at one position
abbrev HoldsOfEach : {A B : Type 0} → (A → B → Type 0) → List A → List B → Type 0
HoldsOfEach P (a ∷ xs) (b ∷ ys) = P a b × HoldsOfEach P xs ys
HoldsOfEach P _ _ = Unit {0}

at_position : {A B : Type 0} (P : A → B → Type 0) (xs : List A) (ys : List B) → HoldsOfEach P xs ys
    → (i : ℕ) (a : A) (b : B) → slice_get xs i ≡ Some a → slice_get ys i ≡ Some b → P a b
at_position P [] ys each i a b e f = absurd (none-some a e)
at_position P (x ∷ xs) [] each i a b e f = absurd (none-some b f)
at_position {A} P (x ∷ xs) (y ∷ ys) each zero a b e f =
    subst (P a) (same_Some y b f) (subst (λ (z : A). P z y) (same_Some x a e) each.0)
at_position P (x ∷ xs) (y ∷ ys) each (suc i) a b e f = at_position P xs ys each.1 i a b e f

-- a publisher that was made has static memory
abbrev IsStaticIfMade : Command ℕ ℕ → Reply ℕ ℕ → Type 0
IsStaticIfMade command reply = (asked : NewPublisher) (p : ℕ) → command ≡ CreatePublisher asked
    → reply ≡ PublisherMade p → asked.allocation ≡ Static

static : (other : Command ℕ ℕ) (reply : Reply ℕ ℕ) → IsStaticIfMade other reply
    → PublishersAreStatic (asked_for other) (replied_with reply)
static other reply its i p asked e made =
    at_position IsStaticIfMade (asked_for other) (replied_with reply) (
      λ asked p e made. absurd cc,
      (
        λ asked p e made. absurd cc,
        (λ asked p e made. cc, (λ asked p e made. absurd cc, (λ asked p e made. absurd cc, (its, tt)))),
      ),
    )
    i (CreatePublisher asked) (PublisherMade p) e made asked p refl refl

-- and is independent
abbrev IsIndependentIfMade : Command ℕ ℕ → Reply ℕ ℕ → Type 0
IsIndependentIfMade command reply =
    (p : ℕ) → reply ≡ PublisherMade p → makes_independent_publisher one_publisher command ≡ true

independent : HoldsOfEach IsIndependentIfMade (asked_for (Receive 0)) (replied_with (Sample 3))
independent =
    (λ p made. refl, (λ p made. refl, (λ p made. refl, (λ p made. absurd cc, (λ p made. refl, (λ p made. refl, tt))))))

-- nothing is closed, and the second subscriber receives nothing
not_asked : (other : Command ℕ ℕ)
    → HoldsOfEach (λ (command same : Command ℕ ℕ). command ≡ other → ⊥) (asked_for (Receive 0)) (asked_for (Receive 0))
    → (i : ℕ) → slice_get (asked_for (Receive 0)) i ≡ Some other → ⊥
not_asked other each i e = at_position (λ (command same : Command ℕ ℕ). command ≡ other → ⊥) (asked_for (Receive 0))
    (asked_for (Receive 0)) each i other other e e refl

-- Whatever ends such two runs have, if no connection was refused memory the second subscriber sees the same at both.
pub refused_growing_publisher_leaves_the_law : (events events' : List (Event ℕ ℕ)) (m m' : Messages ℕ ℕ)
    (s s' : State ℕ ℕ) (handles handles' : List Handle)
    → TellNoRefusal s.warnings → TellNoRefusal s'.warnings
    → RunTo fixed_handlers (only_defaults 0 0) no_messages (fresh one_publisher) [] (asked_for (Receive 0))
    (replied_with (Sample 3)) events m s handles
    → RunTo fixed_handlers (only_defaults 0 0) no_messages (fresh one_publisher) [] (asked_for Nothing)
    (replied_with Done) events' m' s' handles'
    → SameView 2 m s handles m' s' handles'
refused_growing_publisher_leaves_the_law events events' m m' s s' handles handles' told told' h h' =
    (isolated_without_refusals 0 0 one_publisher 1 2 (asked_for (Receive 0)) (asked_for Nothing) []
    (replied_with (Sample 3)) (replied_with Done) events events' m m' s s' handles handles'
    (static (Receive 0) (Sample 3) (λ asked p e made. absurd cc)) (static Nothing Done (λ asked p e made. absurd cc))
    (record { ports = (λ v. v, (λ v. v, (λ v. v, (λ v. v, (λ v. v, (λ v. v, tt)))))); told = told })
    (record { ports = (λ v. v, (λ v. v, (λ v. v, (λ v. v, (λ v. v, (λ v. v, tt)))))); told = told' })
    (inl refl, (inl refl, (inl refl, (inl refl, (inl refl, (inr (refl, refl), tt))))))
    (record {
      publishers = λ i p command e made. at_position IsIndependentIfMade (asked_for (Receive 0))
          (replied_with (Sample 3)) independent i command (PublisherMade p) e made p refl;
      closes = λ i of r other later e made.
          absurd (not_asked (Close of) (
            λ e. absurd cc,
            (λ e. absurd cc, (λ e. absurd cc, (λ e. absurd cc, (λ e. absurd cc, (λ e. absurd cc, tt))))),
          ) i e);
    })
    h h' refl
    (λ i e. absurd (not_asked (Receive 1) (
      λ e. absurd cc,
      (λ e. absurd cc, (λ e. absurd cc, (λ e. absurd cc, (λ e. absurd cc, (λ e. absurd cc, tt))))),
    ) i e))).0
