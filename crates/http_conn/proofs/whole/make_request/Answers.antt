use Rattle.std.proofs.Common.{◌≡◌, ◌∙◌, ℕ, List, take, drop, ap, codes, map}
use Rattle.std.specs.List.{before_first, after_first, list_any}
use Rattle.httparse.specs.Spans.{header_bytes}
use Rattle.httparse.proofs.GrammarLemmas.{request_unique}
use Rattle.http_head.specs.Asked.{asked_in, is_served}
use Rattle.http_head.specs.Fields.{values_of, joined, is_encoding, asks_close}
use Rattle.http_head.specs.Head.{fields_of}
use Rattle.http_head.proofs.FieldLemmas.{framed_target}
use Rattle.http_head.proofs.HeadLemmas.{head_of}
use Rattle.http_conn.specs.Stream.{is_mark}
use Rattle.http_conn.proofs.StreamLemmas.{asks_same}
use Rattle.http_conn.proofs.whole.make_request.Goals as goal

pub asked_text-requires : goal.asked_text-requires
asked_text-requires c =
    let is = c.requires in
    let target : c.of.result.now ≡ is.head.target = c.of.ensures ∙ is.at.path in
    ap is_served target ∙ framed_target is.head.minor is.head.target (fields_of is.head) c.args.head.framing is.framed

pub returns : goal.returns
returns c = λ tree after at.
    let is = c.requires in
    let held : List ℕ = c.args.buf.now in
    let headers = c.args.headers.now in
    let target : c.asked_text.result.now ≡ asked_in is.head.target = c.asked_text.ensures ∙ ap asked_in (c.of.ensures ∙ is.at.path) in
    let fields : map (header_bytes held) (take c.args.head.spans.headers headers) ≡ fields_of is.head = is.at.fields in
    let one = request_unique held is.head tree (drop c.args.head.spans.len held) after is.at.reads at.reads in
    asks_same _ is.head tree one.0 (record {
      method = c.in_ok-method.ensures ∙ c.of-2.ensures ∙ is.at.method;
      path = c.in_ok-path.ensures ∙ c.target_parts.ensures.path ∙ ap (before_first is_mark) target;
      query = c.in_ok-query.ensures ∙ c.target_parts.ensures.query ∙ ap (after_first is_mark) target;
      accept = c.in_ok-accept.ensures ∙ ap (λ (fs : List (List ℕ × List ℕ)). joined (values_of (codes "accept") fs)) fields;
      content_type = c.in_ok-content_type.ensures ∙ ap (λ (fs : List (List ℕ × List ℕ)). joined (values_of (codes "content-type") fs)) fields;
      encoded = c.is_encoded.ensures ∙ ap (λ (fs : List (List ℕ × List ℕ)). list_any is_encoding (values_of (codes "content-encoding") fs)) fields;
      close = c.asks_close.ensures ∙ ap (λ (n : ℕ). asks_close n (map (header_bytes held) (take c.args.head.spans.headers headers))) is.at.version ∙ ap (asks_close is.head.minor) fields;
      expects = c.awaits_interim.ensures is.head (drop c.args.head.spans.len held) (head_of held headers c.args.head is);
    })
