use Rattle.std.proofs.Common.{◌<◌, ◌+◌, ◌∙◌, ◌↔◌, ◌≡◌, ℕ, Option, List, Contains, IsTrue, length, sym, subst, ap, arith}
use Rattle.model_graph.{specs.{Parts.{AreLabels, IsFirstMember}, Rows.{IsAscending, linked}}, proofs.Labels.{AreFirstMembers-from, first_more, no_first_more}}
use Rattle.std.proofs.lemmas.Bool.{false≢true}
use Rattle.model_graph.proofs.parts.first_members.Goals.{then-is_first+in_ok-push, else-is_first}
use Rattle.model_graph.proofs.parts.first_members.Goals as goal

pub members-preserved : goal.members-preserved
members-preserved c =
    let i : ℕ = c.members.member in
    let labels : List (Option ℕ) = c.in_ok-labels.labels.items in
    let firsts : List ℕ = c.members.firsts.items in
    let test = subst (λ (ls : List (Option ℕ)). IsTrue c.is_first.result ↔ IsFirstMember ls i) c.deref.ensures.value c.is_first.ensures in
    elim c.if-is_first.branch [
      | then-is_first+in_ok-push w ↦
          let more = first_more labels firsts i c.members.invariant.ascending c.members.invariant.members (test.0 w.if-is_first.true) in
          subst (λ (now : List ℕ). record {
            ascending : IsAscending now;
            members : (f : ℕ) → Contains now f ↔ ((f < i + 1) × IsFirstMember labels f);
          }) (sym (ap (λ v. v.items) w.firsts-is ∙ w.in_ok-push.ensures.items)) record { ascending = more.0; members = more.1 }
      | else-is_first w ↦
          subst (λ (now : List ℕ). record {
            ascending : IsAscending now;
            members : (f : ℕ) → Contains now f ↔ ((f < i + 1) × IsFirstMember labels f);
          }) (sym (ap (λ v. v.items) w.firsts-is)) record {
            ascending = c.members.invariant.ascending;
            members = no_first_more labels firsts i c.members.invariant.ascending c.members.invariant.members (λ own. false≢true (sym w.if-is_first.false ∙ test.1 own));
          }
    ]

pub returns : goal.returns
returns c =
    let labels : List (Option ℕ) = c.in_ok-labels.labels.items in
    let are : AreLabels (linked c.args.graph.now) (length c.args.graph.now) labels = c.in_ok-labels.ensures in
    let past : c.members.member ≡ length c.args.graph.now = omega (arith, c.in_ok-labels.ensures.same_length) in
    AreFirstMembers-from (linked c.args.graph.now) (length c.args.graph.now) labels c.members.firsts.items are c.members.invariant.ascending
    (subst (λ (n : ℕ). (f : ℕ) → Contains c.members.firsts.items f ↔ ((f < n) × IsFirstMember labels f)) past c.members.invariant.members)
