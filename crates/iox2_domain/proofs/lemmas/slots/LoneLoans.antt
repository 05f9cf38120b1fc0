-- Each loan still has one holder after a change of one book.
use Rattle.std.proofs.Common.{◌≡◌, ◌≢◌, ℕ, ◌<◌, ◌≤◌, List, true, false, length, refl, ap, sym, subst, ◌∙◌, inl, inr}
use Rattle.std.proofs.Common.{arith}
use Rattle.std.proofs.lemmas.Bool.{cases_eq, ltb-true, lt-ltb, and_from}
use Rattle.std.proofs.lemmas.List.{get_or-set_same, get_or-set_other}
use Rattle.std.specs.Prelude.{slice_get, slice_set}
use Rattle.std.specs.declared.option.Option.TheVariants.{None, Some}
use Rattle.std.specs.Option.{option_map_or}
use Rattle.circular_buffer.proofs.Places.{slice_get-set_same, slice_get-set_other}
use Rattle.slab.specs.Slab.{Slab, get, with_value}
use Rattle.iox2_slots.specs.SlotBook.{Book, holders_at}
use Rattle.iox2_slots.specs.declared.slots.mark.SlotMark.{SlotMark}
use Rattle.iox2_slots.specs.declared.slots.mark.SlotMark.TheVariants.{Sent}
use Rattle.iox2_connections.specs.Counters.{with_counters}
use Rattle.iox2_connections.proofs.MailboxChanges.{both-true, within_if_some}
use Rattle.iox2_domain.specs.Deliveries.{with_sent}
use Rattle.iox2_domain.specs.Invariant.{HasLoneLoans, is_lent, is_loan_in}
use Rattle.iox2_domain.specs.LoanSlots.{IsLoanSlot}

-- if the slot is a loan it has one holder
abbrev pub IsLoneIn : Book → (slot : ℕ) → Type 0
IsLoneIn b slot = is_loan_in b slot ≡ true → holders_at b slot ≡ 1

-- one book is changed
pub lone-changed : (books : Slab Book) (key : ℕ) (b d : Book) → get books key ≡ Some b → HasLoneLoans books
    → ((slot : ℕ) → IsLoneIn b slot → IsLoneIn d slot) → HasLoneLoans (with_value books key d)
lone-changed books key b d at lone keeps = record {
  at = λ k slot e there. elim (cases_eq k key) [
    | inl same ↦
        let now : Some d ≡ Some e =
        sym (get_or-set_same books.slots key (Some d) None (within_if_some books.slots key b at))
        ∙ ap (get (with_value books key d)) (sym same) ∙ there in
        let is : d ≡ e = cc in
        subst (λ (c : Book). IsLoneIn c slot) is (keeps slot (lone.at key slot b at))
    | inr away ↦ lone.at k slot e (sym (get_or-set_other books.slots key k (Some d) None away) ∙ there)
  ];
}

-- a slot in which a loan lies is a loan
pub is-loan : (b : Book) (slot n : ℕ) → IsLoanSlot b slot n → is_loan_in b slot ≡ true
is-loan b slot n is = and_from _ _ (lt-ltb 0 (holders_at b slot) is.in_use) is.lent

-- a slot with the same mark and no more holders
pub lone-fewer : (b d : Book) (slot : ℕ) → slice_get d.marks slot ≡ slice_get b.marks slot
    → holders_at d slot ≤ holders_at b slot → IsLoneIn b slot → IsLoneIn d slot
lone-fewer b d slot marks fewer lone is =
    let parts = both-true _ _ is in
    let some : 0 < holders_at d slot = ltb-true 0 (holders_at d slot) parts.0 in
    let before : 0 < holders_at b slot = omega (arith, some, fewer) in
    let one : holders_at b slot ≡ 1 =
    lone (and_from _ _ (lt-ltb 0 (holders_at b slot) before)
    (sym (ap (λ o. option_map_or is_lent o false) marks) ∙ parts.1)) in
    omega (arith, some, fewer, one)

-- the counters fall
pub lone-counters : (books : Slab Book) (key : ℕ) (b : Book) (holders : List ℕ) → get books key ≡ Some b
    → HasLoneLoans books → ((slot : ℕ) → holders_at (with_counters b holders) slot ≤ holders_at b slot)
    → HasLoneLoans (with_value books key (with_counters b holders))
lone-counters books key b holders at lone fewer = lone-changed books key b (with_counters b holders) at lone
    (λ slot. lone-fewer b (with_counters b holders) slot refl (fewer slot))

-- a loan gets another mark
pub lone-marked : (books : Slab Book) (key slot n : ℕ) (b : Book) (mark : SlotMark) → get books key ≡ Some b
    → HasLoneLoans books → IsLoanSlot b slot n
    → HasLoneLoans (with_value books key (record b { marks = slice_set b.marks slot mark }))
lone-marked books key slot n b mark at lone is =
    lone-changed books key b (record b { marks = slice_set b.marks slot mark }) at lone
    (λ s before. elim (cases_eq s slot) [
      | inl same ↦ λ _. subst (λ (j : ℕ). holders_at b j ≡ 1) (sym same) (lone.at key slot b at (is-loan b slot n is))
      | inr away ↦ lone-fewer b (record b { marks = slice_set b.marks slot mark }) s
          (slice_get-set_other b.marks slot s mark away) (omega arith) before
    ])

-- a slot is sent, and no other has more holders
pub lone-sent : (books : Slab Book) (key slot : ℕ) (b : Book) (holders : List ℕ) → get books key ≡ Some b
    → HasLoneLoans books → slot < length b.marks
    → ((other : ℕ) → other ≢ slot → holders_at (with_counters b holders) other ≤ holders_at b other)
    → HasLoneLoans (with_value books key (with_sent slot (with_counters b holders)))
lone-sent books key slot b holders at lone low fewer =
    lone-changed books key b (with_sent slot (with_counters b holders)) at lone (λ s before. elim (cases_eq s slot) [
      | inl same ↦ λ loan.
          let lent : option_map_or is_lent (slice_get (with_sent slot (with_counters b holders)).marks s) false ≡ true =
          (both-true _ _ loan).1 in
          let no : false ≡ true =
          sym (ap (λ o. option_map_or is_lent o false)
          (ap (slice_get (with_sent slot (with_counters b holders)).marks) same
          ∙ slice_get-set_same b.marks slot Sent low)) ∙ lent in
          absurd cc
      | inr away ↦
          lone-fewer b (with_sent slot (with_counters b holders)) s (slice_get-set_other b.marks slot s Sent away)
          (fewer s away) before
    ])
