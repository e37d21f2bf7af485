use Rattle.std.proofs.lemmas.Result.{err_from_is_err_and}
use Rattle.echo_filed.specs.Stored.{has_tag}
use Rattle.echo_filed.proofs.StoredFields.{address_field, from_date, from_first, from_second, from_sender, from_subject, last_field, short_field}
use Rattle.echo_filed.proofs.{Layouts.byte_field, Layouts.fixed_field, StoredTaken.last_breaks, StoredTaken.last_had, StoredTaken.stored_breaks, StoredTaken.stored_had}
use Rattle.echo_filed.proofs.Taken.{breaks_first, breaks_second, reads_both}
use Rattle.echo_filed.proofs.stored.read_stored.Goals as goal

pub returns-in_err-kind-clause-read : goal.returns-in_err-kind-clause-read
returns-in_err-kind-clause-read g c =
    let p = err_from_is_err_and c.from_residual.result c.from_residual.ensures.1 in
    rw (p.1, p.2) (stored_breaks c.args.version _ _ _ (breaks_first byte_field (λ kind. from_sender (has_tag c.args.version kind)) _ _ _ c.in_err-kind.ensures.read))

pub returns-in_err-sender-clause-read : goal.returns-in_err-sender-clause-read
returns-in_err-sender-clause-read g c =
    let b = has_tag c.args.version c.in_ok-kind.kind in
    let p = err_from_is_err_and c.from_residual-in_err-sender.result c.from_residual-in_err-sender.ensures.1 in
    rw (p.1, p.2) (stored_breaks c.args.version _ _ _
    (breaks_second byte_field (λ k. from_sender (has_tag c.args.version k)) c.in_ok-kind.kind _ _ _ _ c.in_ok-kind.ensures.read
    (breaks_first address_field (λ _. from_date b) _ _ _ c.in_err-sender.ensures.read)))

pub returns-in_err-date-clause-read : goal.returns-in_err-date-clause-read
returns-in_err-date-clause-read g c =
    let b = has_tag c.args.version c.in_ok-kind.kind in
    let p = err_from_is_err_and c.from_residual-in_err-date.result c.from_residual-in_err-date.ensures.1 in
    rw (p.1, p.2) (stored_breaks c.args.version _ _ _
    (breaks_second byte_field (λ k. from_sender (has_tag c.args.version k)) c.in_ok-kind.kind _ _ _ _ c.in_ok-kind.ensures.read
    (breaks_second address_field (λ _. from_date b) c.in_ok-sender.sender _ _ _ _ c.in_ok-sender.ensures.read
    (breaks_first (fixed_field 20) (λ _. from_first b) _ _ _ c.in_err-date.ensures.read))))

pub returns-in_err-to_name-clause-read : goal.returns-in_err-to_name-clause-read
returns-in_err-to_name-clause-read g c =
    let b = has_tag c.args.version c.in_ok-kind.kind in
    let p = err_from_is_err_and c.from_residual-in_err-to_name.result c.from_residual-in_err-to_name.ensures.1 in
    rw (p.1, p.2) (stored_breaks c.args.version _ _ _
    (breaks_second byte_field (λ k. from_sender (has_tag c.args.version k)) c.in_ok-kind.kind _ _ _ _ c.in_ok-kind.ensures.read
    (breaks_second address_field (λ _. from_date b) c.in_ok-sender.sender _ _ _ _ c.in_ok-sender.ensures.read
    (breaks_second (fixed_field 20) (λ _. from_first b) c.in_ok-date.date _ _ _ _ c.in_ok-date.ensures.read
    (breaks_first short_field (λ _. from_second b) _ _ _ c.in_err-to_name.ensures.read)))))

pub returns-in_err-from_name-clause-read : goal.returns-in_err-from_name-clause-read
returns-in_err-from_name-clause-read g c =
    let b = has_tag c.args.version c.in_ok-kind.kind in
    let p = err_from_is_err_and c.from_residual-in_err-from_name.result c.from_residual-in_err-from_name.ensures.1 in
    rw (p.1, p.2) (stored_breaks c.args.version _ _ _
    (breaks_second byte_field (λ k. from_sender (has_tag c.args.version k)) c.in_ok-kind.kind _ _ _ _ c.in_ok-kind.ensures.read
    (breaks_second address_field (λ _. from_date b) c.in_ok-sender.sender _ _ _ _ c.in_ok-sender.ensures.read
    (breaks_second (fixed_field 20) (λ _. from_first b) c.in_ok-date.date _ _ _ _ c.in_ok-date.ensures.read
    (breaks_second short_field (λ _. from_second b) c.in_ok-to_name.to_name _ _ _ _ c.in_ok-to_name.ensures.read
    (breaks_first short_field (λ _. from_subject b) _ _ _ c.in_err-from_name.ensures.read))))))

pub returns-in_err-subject-clause-read : goal.returns-in_err-subject-clause-read
returns-in_err-subject-clause-read g c =
    let b = has_tag c.args.version c.in_ok-kind.kind in
    let p = err_from_is_err_and c.from_residual-in_err-subject.result c.from_residual-in_err-subject.ensures.1 in
    rw (p.1, p.2) (stored_breaks c.args.version _ _ _
    (breaks_second byte_field (λ k. from_sender (has_tag c.args.version k)) c.in_ok-kind.kind _ _ _ _ c.in_ok-kind.ensures.read
    (breaks_second address_field (λ _. from_date b) c.in_ok-sender.sender _ _ _ _ c.in_ok-sender.ensures.read
    (breaks_second (fixed_field 20) (λ _. from_first b) c.in_ok-date.date _ _ _ _ c.in_ok-date.ensures.read
    (breaks_second short_field (λ _. from_second b) c.in_ok-to_name.to_name _ _ _ _ c.in_ok-to_name.ensures.read
    (breaks_second short_field (λ _. from_subject b) c.in_ok-from_name.from_name _ _ _ _ c.in_ok-from_name.ensures.read
    (breaks_first short_field (λ _. last_field b) _ _ _ c.in_err-subject.ensures.read)))))))

pub returns-in_err-tag-clause-read : goal.returns-in_err-tag-clause-read
returns-in_err-tag-clause-read g c =
    let b = has_tag c.args.version c.in_ok-kind.kind in
    let p = err_from_is_err_and c.from_residual-in_err-tag.result c.from_residual-in_err-tag.ensures.1 in
    let last = last_breaks c.has_tag.result b c.has_tag.ensures _ _ _ c.in_err-tag.ensures.read in
    rw (p.1, p.2) (stored_breaks c.args.version _ _ _
    (breaks_second byte_field (λ k. from_sender (has_tag c.args.version k)) c.in_ok-kind.kind _ _ _ _ c.in_ok-kind.ensures.read
    (breaks_second address_field (λ _. from_date b) c.in_ok-sender.sender _ _ _ _ c.in_ok-sender.ensures.read
    (breaks_second (fixed_field 20) (λ _. from_first b) c.in_ok-date.date _ _ _ _ c.in_ok-date.ensures.read
    (breaks_second short_field (λ _. from_second b) c.in_ok-to_name.to_name _ _ _ _ c.in_ok-to_name.ensures.read
    (breaks_second short_field (λ _. from_subject b) c.in_ok-from_name.from_name _ _ _ _ c.in_ok-from_name.ensures.read
    (breaks_second short_field (λ _. last_field b) c.in_ok-subject.subject _ _ _ _ c.in_ok-subject.ensures.read last)))))))

pub returns-clause-read : goal.returns-clause-read
returns-clause-read g c =
    let b = has_tag c.args.version c.in_ok-kind.kind in
    let last = last_had c.has_tag.result b c.has_tag.ensures (c.in_ok-tag.tag, c.in_ok-tag.last) _ _ c.in_ok-tag.ensures.read in
    stored_had c.args.version _ _ _
    (reads_both byte_field (λ k. from_sender (has_tag c.args.version k)) c.in_ok-kind.kind _ _ _ _ c.in_ok-kind.ensures.read
    (reads_both address_field (λ _. from_date b) c.in_ok-sender.sender _ _ _ _ c.in_ok-sender.ensures.read
    (reads_both (fixed_field 20) (λ _. from_first b) c.in_ok-date.date _ _ _ _ c.in_ok-date.ensures.read
    (reads_both short_field (λ _. from_second b) c.in_ok-to_name.to_name _ _ _ _ c.in_ok-to_name.ensures.read
    (reads_both short_field (λ _. from_subject b) c.in_ok-from_name.from_name _ _ _ _ c.in_ok-from_name.ensures.read
    (reads_both short_field (λ _. last_field b) c.in_ok-subject.subject _ _ _ _ c.in_ok-subject.ensures.read last))))))
