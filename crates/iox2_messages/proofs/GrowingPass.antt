-- A slot is readied for a loan of a publisher whose memory grows.
use Rattle.std.proofs.Common.{◌≡◌, ◌<◌, ◌≤◌, ℕ, ◌+◌, Bool, true, false, not, All, None, Some, Result, Ok, Err, length}
use Rattle.std.proofs.Common.{drop, get_or, refl, ap, sym, subst, ◌∙◌, inl, inr, ◌⊎◌, arith}
use Rattle.std.specs.Bool.{MatchBool}
use Rattle.std.specs.Prelude.{IsTrue, ◌↔◌}
use Rattle.slab.specs.Slab.{get}
use Rattle.iox2_machine.specs.declared.errors.LoanError.{LoanError}
use Rattle.iox2_machine.specs.declared.errors.LoanError.TheVariants.{OutOfMemory, ExceedsMaxLoans, InternalFailure}
use Rattle.iox2_machine.specs.machine.Limits.{last_number, segment_fits, segment_limit}
use Rattle.iox2_machine.specs.machine.Loans.{is_static, GrantLoan, loan_granted}
use Rattle.iox2_machine.specs.machine.Records.{Publisher}
use Rattle.iox2_machine.specs.machine.State.{State}
use Rattle.iox2_slots.specs.SlotBook.{Book, with_more_slots}
use Rattle.iox2_machine.specs.declared.service_config.ServiceConfig.{ServiceConfig}
use Rattle.std.proofs.lemmas.List.{get_or-drop, get_or-set_same, get_or_past, length-drop}
use Rattle.std.specs.declared.option.Option.{Option}
use Rattle.iox2_connections.proofs.MailboxChanges.{within_if_some}
use Rattle.iox2_connections.specs.Receivers.{HasReclaimed}
use Rattle.iox2_domain.specs.Fields.{Fields, kept_of, publisher_of}
use Rattle.iox2_domain.specs.Growth.{Grows, HasFreeSlot, HasNoSlot, with_segment}
use Rattle.iox2_domain.specs.Invariant.{IsDomain}
use Rattle.iox2_domain.specs.Kept.{state_of}
use Rattle.iox2_domain.specs.Lending.{memory_for}
use Rattle.iox2_domain.specs.Ports.{PublisherFields}
use Rattle.iox2_domain.specs.Reaches.{Reaches}
use Rattle.iox2_domain.proofs.lemmas.fields.ReachesShows.{reaches-same, reaches-then}
use Rattle.iox2_domain.proofs.lemmas.loans.GrowingLoans.{grows-failed, grows-granted, grows-last, grows-limited}
use Rattle.iox2_domain.proofs.lemmas.loans.GrowingLoans.{grows-more, grows-out, shorter-fits}
use Rattle.iox2_domain.proofs.lemmas.loans.GrownSegments.{grown-reaches, grown-stands, grown-stands_book}
use Rattle.iox2_domain.proofs.lemmas.slots.GrownBooks.{grown-length, with_zeros}
use Rattle.iox2_messages.specs.ReadySlots.{IsReady, MayPrepare, Prepares, with_segments}
use Rattle.iox2_messages.proofs.CountedPass.{segments-same}
use Rattle.iox2_messages.proofs.ReadyPass.{machine-kept}

-- What is seen of the current segment, where it is long enough.
pub slot-seen : {T U : Type 0} (before f : Fields T U) → f ≡ before → (i : ℕ) (x x0 : PublisherFields)
    → get_or f.publishers i None ≡ Some x → get_or before.publishers i None ≡ Some x0
    → (book : Book) → get f.books x.book ≡ Some book → (len : ℕ) → len ≤ x.segment_length → (b : Bool)
    → (IsTrue b ↔ All (λ n. 0 < n) (drop x.segment_start book.holders))
    → MatchBool (not b) (HasFreeSlot before x0 len) (HasNoSlot before x0 len)
slot-seen {T} {U} before f same i x x0 at at0 book its len low b full =
    subst (λ (y : PublisherFields). MatchBool (not b) (HasFreeSlot before y len) (HasNoSlot before y len)) its-is
    (subst (λ (h : Fields T U). MatchBool (not b) (HasFreeSlot h x len) (HasNoSlot h x len)) same (by b full))
  where
    its-is : x ≡ x0
    its-is = let found : Some x ≡ Some x0 = sym at ∙ ap (λ (h : Fields T U). get_or h.publishers i None) same ∙ at0 in
        cc

    by : (b : Bool) → (IsTrue b ↔ All (λ n. 0 < n) (drop x.segment_start book.holders))
        → MatchBool (not b) (HasFreeSlot f x len) (HasNoSlot f x len)
    by true full = inr (book, its, full.0 refl)
    by false full = record {
      book = book;
      stands = its;
      some_free = λ all. absurd (let no : false ≡ true = full.1 all in cc);
      long = low;
    }

-- ---- the cases of a preparation

module _ {T U : Type 0} (f : Fields T U) (sound : IsDomain f) (i : ℕ)
    (given : (x : PublisherFields) × (get_or f.publishers i None ≡ Some x) × (is_static x.allocation ≡ false))
    (len : ℕ) where
  abbrev x : PublisherFields
  x = given.0

  abbrev now : State T U
  now = state_of (kept_of f)

  abbrev lender : Publisher
  lender = (publisher_of f.books f.connections x).port

  -- what the call comes to
  abbrev pub Comes : Result (Unit {0}) LoanError → Fields T U → Type 0
  Comes result f' = (z : PublisherFields) → get_or f.publishers i None ≡ Some z → Prepares f i z len result f'

  comes : (result : Result (Unit {0}) LoanError) (f' : Fields T U) → Prepares f i x len result f' → Comes result f'
  comes result f' h z at =
      let found : Some x ≡ Some z = sym given.1 ∙ at in
      let is : x ≡ z = cc in
      subst (λ (y : PublisherFields). Prepares f i y len result f') is h

  pub comes-limited : x.max_loaned_samples ≤ length x.loans → Comes (Err ExceedsMaxLoans) f
  comes-limited many = comes (Err ExceedsMaxLoans) f (
    λ checks user_header.
        grows-limited f sound i x given.1 checks len given.2 user_header many,
    reaches-same f sound,
  )

  module _ (few : length x.loans < x.max_loaned_samples) where
    pub comes-last : f.next_message ≡ last_number → Comes (Err InternalFailure) f
    comes-last last = comes (Err InternalFailure) f (
      λ checks user_header.
          grows-last f sound i x given.1 checks len given.2 few user_header last,
      reaches-same f sound,
    )

    -- after nothing, or after slots were reclaimed
    module _ (more : f.next_message < last_number) (mid : Fields T U) (reached : Reaches f mid now)
        (same : mid.publishers ≡ f.publishers) where
      at_mid : get_or mid.publishers i None ≡ Some x
      at_mid = ap (λ xs. get_or xs i None) same ∙ given.1

      more_mid : mid.next_message < last_number
      more_mid = subst (λ (s : State T U). s.next_message < last_number) (sym reached.state) more

      -- a slot is free
      module _ (free : (z : PublisherFields) → get_or mid.publishers i None ≡ Some z → HasFreeSlot mid z len) where
        grants : (checks : Bool) (user_header : U) → GrantLoan (memory_for x.allocation) user_header checks len now x.id
            (loan_granted user_header now x.id lender len x.segments) None
        grants checks user_header = grows-granted f sound i x given.1 checks len given.2 few user_header more
            (shorter-fits f.config x.slots x.segment_length len (free x at_mid).long
            (sound.parts.publisher_room i x given.1).size)

        pub comes-free : Comes (Ok tt) mid
        comes-free = comes (Ok tt) mid (record {
          uncounted = mid;
          reached = reached;
          lender = x;
          stands = at_mid;
          id = refl;
          book = refl;
          grows = given.2;
          few = few;
          more = more_mid;
          slot = free x at_mid;
          segments = x.segments;
          grants = grants;
          counted = sym (segments-same mid i x at_mid);
        })

      -- no slot is free even then
      module _ (reclaimed : HasReclaimed mid.connections x.keys) (none : HasNoSlot mid x len) where
        some : 0 < x.slots
        some = (sound.parts.plain i x given.1).segment.some (omega (arith, few))

        pub stands-some : (z : PublisherFields) × (get_or mid.publishers i None ≡ Some z) × (0 < z.slots)
        stands-some = (x, at_mid, some)

        same-machine : (publisher_of mid.books mid.connections x).port ≡ lender
        same-machine = machine-kept f mid sound i x given.1 reached x at_mid refl

        -- the loan is refused, since no further segment is made
        pub comes-failed : (e : LoanError) (new : Fields T U) → (new ≡ mid)
            × ((e ≡ InternalFailure) ⊎ ((e ≡ OutOfMemory) × (x.segments ≡ segment_limit))) → Comes (Err e) new
        comes-failed e new refuses = comes (Err e) new (
          λ checks user_header.
              subst (λ (s : State T U). GrantLoan (memory_for x.allocation) user_header checks len s x.id s (Some e))
              reached.state (why checks user_header),
          subst (λ (h : Fields T U). Reaches f h now) (sym refuses.0) reached,
        ) where
          why : (checks : Bool) (user_header : U) → GrantLoan (memory_for x.allocation) user_header checks len
              (state_of (kept_of mid)) x.id (state_of (kept_of mid)) (Some e)
          why checks user_header = elim refuses.1 [
            | inl failed ↦ subst (λ (e : LoanError). GrantLoan (memory_for x.allocation) user_header checks len
                (state_of (kept_of mid)) x.id (state_of (kept_of mid)) (Some e)) (sym failed)
                (grows-failed mid reached.agrees i x at_mid checks len given.2 few reclaimed none user_header)
            | inr out ↦ subst (λ (e : LoanError). GrantLoan (memory_for x.allocation) user_header checks len
                (state_of (kept_of mid)) x.id (state_of (kept_of mid)) (Some e)) (sym out.0)
                (grows-out mid reached.agrees i x at_mid checks len given.2 few reclaimed none user_header out.1)
          ]

        -- a further segment is made
        module _ (new : Fields T U) (grew : (x.segments < segment_limit) × (longest : ℕ) × (len ≤ longest)
            × Grows mid i x len longest new) where
          abbrev longest : ℕ
          longest = grew.1

          abbrev g : Grows mid i x len longest new
          g = grew.3

          abbrev y : PublisherFields
          y = with_segment (length (g.book).holders) longest x

          reached-new : Reaches f new now
          reached-new = reaches-then f mid new _ _ reached
              (subst (λ (s : State T U). Reaches mid new s) reached.state
              (grown-reaches mid reached.agrees i x at_mid given.2 len longest new g))

          at_new : get_or new.publishers i None ≡ Some y
          at_new = grown-stands mid reached.agrees i x at_mid given.2 len longest new g

          -- one more may be counted
          pub stands-fewer : (z : PublisherFields) × (get_or new.publishers i None ≡ Some z)
              × (z.segments < segment_limit)
          stands-fewer = (y, at_new, grew.0)

          free : HasFreeSlot new y len
          free = record {
            book = with_more_slots x.slots g.book;
            stands = grown-stands_book mid reached.agrees i x at_mid given.2 len longest new g;
            some_free = λ all.
                let n = length (g.book).holders in
                let none_there : get_or (drop n (with_more_slots x.slots g.book).holders) 0 0 ≡ 0 =
                get_or-drop n (with_more_slots x.slots g.book).holders 0 0 ∙ with_zeros (g.book).holders x.slots (n + 0)
                ∙ get_or_past (g.book).holders (n + 0) 0 (omega arith) in
                let long : length (drop n (with_more_slots x.slots g.book).holders) ≡ x.slots =
                (let d = length-drop n (with_more_slots x.slots g.book).holders in
                let l = grown-length g.book x.slots in omega (arith, d, l)) in
                let held = all 0 0 (omega (arith, long, some)) in
                omega (arith, none_there, held);
            long = grew.2;
          }

          fits : segment_fits f.config x.slots len ≡ true
          fits = shorter-fits f.config x.slots longest len grew.2
              (subst (λ (c : ServiceConfig). segment_fits c x.slots longest ≡ true)
              (ap (λ (s : State T U). s.config) reached.state) g.fits)

          grants-new : (checks : Bool) (user_header : U)
              → GrantLoan (memory_for x.allocation) user_header checks len now x.id
              (loan_granted user_header now x.id lender len (x.segments + 1)) None
          grants-new checks user_header =
              subst (λ (z : Publisher). GrantLoan (memory_for x.allocation) user_header checks len now x.id
              (loan_granted user_header now x.id z len (x.segments + 1)) None) same-machine
              (subst (λ (s : State T U). GrantLoan (memory_for x.allocation) user_header checks len s x.id
              (loan_granted user_header s x.id ((publisher_of mid.books mid.connections x).port) len (x.segments + 1))
              None) reached.state
              (grows-more mid reached.agrees i x at_mid checks len given.2 few reclaimed none user_header more_mid
              (subst (λ (c : ServiceConfig). segment_fits c x.slots len ≡ true)
              (sym (ap (λ (s : State T U). s.config) reached.state)) fits) grew.0))

          -- and counted
          pub comes-grown : (last : Fields T U) → ((z : PublisherFields) → get_or new.publishers i None ≡ Some z
              → last ≡ with_segments new i z (z.segments + 1)) → Comes (Ok tt) last
          comes-grown last counts = comes (Ok tt) last (record {
            uncounted = new;
            reached = reached-new;
            lender = y;
            stands = at_new;
            id = refl;
            book = refl;
            grows = given.2;
            few = few;
            more = subst (λ (s : State T U). s.next_message < last_number) (sym reached-new.state) more;
            slot = free;
            segments = x.segments + 1;
            grants = grants-new;
            counted = counts y at_new;
          })

-- ---- a slot is readied after something that can't be seen

module _ {T U : Type 0} (f mid : Fields T U) (sound : IsDomain f) (i : ℕ)
    (reached : Reaches f mid (state_of (kept_of f))) (same : mid.publishers ≡ f.publishers) (len : ℕ) where
  stands-mid : (x : PublisherFields) → get_or f.publishers i None ≡ Some x → get_or mid.publishers i None ≡ Some x
  stands-mid x at = ap (λ xs. get_or xs i None) same ∙ at

  -- the publisher stands as it stood
  pub grows-then : ((x : PublisherFields) × (get_or f.publishers i None ≡ Some x) × (is_static x.allocation ≡ false))
      → (x : PublisherFields) × (get_or mid.publishers i None ≡ Some x) × (is_static x.allocation ≡ false)
  grows-then given = (given.0, stands-mid given.0 given.1, given.2)

  module _ (x : PublisherFields) (at : get_or f.publishers i None ≡ Some x) where
    -- what is granted or refused then is so at first
    grants-before : (e : Option LoanError) (checks : Bool) (user_header : U) (after : State T U → Publisher → State T U)
        → GrantLoan (memory_for x.allocation) user_header checks len (state_of (kept_of mid)) x.id
        (after (state_of (kept_of mid)) ((publisher_of mid.books mid.connections x).port)) e
        → GrantLoan (memory_for x.allocation) user_header checks len (state_of (kept_of f)) x.id
        (after (state_of (kept_of f)) ((publisher_of f.books f.connections x).port)) e
    grants-before e checks user_header after grants =
        subst (λ (z : Publisher). GrantLoan (memory_for x.allocation) user_header checks len (state_of (kept_of f)) x.id
        (after (state_of (kept_of f)) z) e)
        (machine-kept f mid sound i x at reached x (stands-mid x at) refl)
        (subst (λ (s : State T U). GrantLoan (memory_for x.allocation) user_header checks len s x.id
        (after s ((publisher_of mid.books mid.connections x).port)) e) reached.state grants)

    reaches-before : (f' : Fields T U) → Reaches mid f' (state_of (kept_of mid)) → Reaches f f' (state_of (kept_of f))
    reaches-before f' next =
        reaches-then f mid f' _ _ reached (subst (λ (s : State T U). Reaches mid f' s) reached.state next)

    before : {A : Type 0} (result : Result A LoanError) (f' : Fields T U) → Prepares mid i x len result f'
        → Prepares f i x len result f'
    before (Ok value) f' ready = record {
      uncounted = ready.uncounted;
      reached = reaches-before ready.uncounted ready.reached;
      lender = ready.lender;
      stands = ready.stands;
      id = ready.id;
      book = ready.book;
      grows = ready.grows;
      few = ready.few;
      more = ready.more;
      slot = ready.slot;
      segments = ready.segments;
      grants = λ checks user_header. grants-before None checks user_header
          (λ s z. loan_granted user_header s x.id z len ready.segments) (ready.grants checks user_header);
      counted = ready.counted;
    }
    before (Err e) f' refused = (
      λ checks user_header. grants-before (Some e) checks user_header (λ s z. s) (refused.0 checks user_header),
      reaches-before f' refused.1,
    )

  -- so a slot is ready, or the loan is refused
  pub prepares-then : {A : Type 0} (result : Result A LoanError) (f' : Fields T U)
      → ((x : PublisherFields) → get_or mid.publishers i None ≡ Some x → Prepares mid i x len result f')
      → (x : PublisherFields) → get_or f.publishers i None ≡ Some x → Prepares f i x len result f'
  prepares-then result f' then x at = before x at result f' (then x (stands-mid x at))

  -- the publisher stands with a slot ready
  pub stands-ready : (f' : Fields T U)
      → ((x : PublisherFields) × (get_or f.publishers i None ≡ Some x) × (is_static x.allocation ≡ false))
      → ((x : PublisherFields) → get_or mid.publishers i None ≡ Some x → IsReady mid i x len f')
      → (x : PublisherFields) × (get_or f'.publishers i None ≡ Some x)
  stands-ready f' given then =
      let ready = then given.0 (stands-mid given.0 given.1) in
      let counted : PublisherFields = record ready.lender { segments = ready.segments } in (
        counted,
        ap (λ (h : Fields T U). get_or h.publishers i None) ready.counted
            ∙ get_or-set_same (ready.uncounted).publishers i (Some counted) None
            (within_if_some (ready.uncounted).publishers i ready.lender ready.stands),
      )

-- what a publisher whose memory grows readies is what any publisher may
pub may-prepare : {T U A : Type 0} (f : Fields T U) (i : ℕ) (x : PublisherFields) (len : ℕ)
    (result : Result A LoanError) (f' : Fields T U)
    → Prepares f i x len result f' → MayPrepare f i x len result f'
may-prepare f i x len (Ok value) f' ready = inr ready
may-prepare f i x len (Err e) f' refused = refused
