use Rattle.std.proofs.Common.{rules, ◌≡◌, ◌↔◌, ◌≤◌, not, drop, take, length, sym, subst, List, ℕ, true, false, arith}
use Rattle.std.{proofs.lemmas.List.Sorted.IsPartitionPoint-from_clause, specs.{Prelude.Contains, List.Sorted.{IsPartitionPoint, IsPartitionedBy}}}
use Rattle.echo_filed.specs.Sets.{address_before}
use Rattle.echo_verdict.{specs.declared.link.Link.Link, proofs.Owned.{cut, not_greater_first, smaller_first}}
use Rattle.echo_verdict.proofs.rows.outgoing_links.Goals as goal

pub returns : goal.returns
returns c =
    let links : List Link = c.args.links.now in
    let system = c.args.system in
    let start : ℕ = c.partition_point-start.result in
    let count : ℕ = c.partition_point-count.result in
    let is : c.split_at.result.1.now ≡ drop start links = c.split_at.ensures.back in
    let run : c.split_at-2.result.0.now ≡ take count (drop start links) = grind arith in
    let first : IsPartitionPoint (λ (l : Link). address_before l.from system ≡ true) (λ (l : Link). address_before l.from system ≡ false) links start =
    IsPartitionPoint-from_clause (λ (l : Link). address_before l.from system) links start c.partition_point-start.ensures.partitioned (smaller_first links c.requires system) (λ a r q k. search rules) in
    let second : IsPartitionPoint (λ (l : Link). not (address_before system l.from) ≡ true) (λ (l : Link). not (address_before system l.from) ≡ false) (drop start links) count =
    subst (λ (ls : List Link). IsPartitionPoint (λ (l : Link). not (address_before system l.from) ≡ true) (λ (l : Link). not (address_before system l.from) ≡ false) ls count) is
    (IsPartitionPoint-from_clause (λ (l : Link). not (address_before system l.from)) c.split_at.result.1.now count c.partition_point-count.ensures.partitioned
    (subst (λ (ls : List Link). IsPartitionedBy (λ (l : Link). not (address_before system l.from)) ls) (sym is) (not_greater_first links c.requires system start)) (λ a r q k. search rules)) in
    let most : count ≤ length (drop start links) = subst (λ (ls : List Link). count ≤ length ls) is c.partition_point-count.ensures.bound in
    subst (λ (ls : List Link). (l : Link) → Contains ls l ↔ (Contains links l × (l.from ≡ system))) (sym run)
    (cut links c.requires system start count first second c.partition_point-start.ensures.bound most)
