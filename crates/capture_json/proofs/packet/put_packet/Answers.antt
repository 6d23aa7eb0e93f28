use Rattle.std.specs.Prelude.{codes}
use Rattle.std.proofs.Common.{◌≡◌, ◌∙◌, ◌++◌, List, ap, refl}
use Rattle.std.proofs.lemmas.Result.{on_ok_weaker}
use Rattle.json.specs.Token.{Token}
use Rattle.capture_json.specs.JsonArp.{arp_members}
use Rattle.capture_json.specs.JsonComments.{comments_members}
use Rattle.capture_json.specs.JsonInterface.{packet_interface_members}
use Rattle.capture_json.specs.JsonPacket.{fragment_members, frame_members, hop_limit_members, time_members, tunnel_members, verdict_members}
use Rattle.capture_json.specs.Members.{Member, whole_number}
use Rattle.capture_json.specs.Tokens.{put, with_members}
use Rattle.capture_json.proofs.TokensLemmas.{then_put}
use Rattle.capture_json.proofs.packet.put_packet.Goals as goal

-- ten parts of an object, in their order, after its first members
parts_put : (a b c d e f g h i j : List Member) (before t0 t1 t2 t3 t4 t5 t6 t7 t8 t9 t10 : List Token)
    → t0 ≡ before → t1 ≡ with_members a t0 → t2 ≡ with_members b t1 → t3 ≡ with_members c t2 → t4 ≡ with_members d t3
    → t5 ≡ with_members e t4
    → t6 ≡ with_members f t5 → t7 ≡ with_members g t6 → t8 ≡ with_members h t7 → t9 ≡ with_members i t8 → t10 ≡ with_members j t9
    → t10 ≡ with_members (a ++ (b ++ (c ++ (d ++ (e ++ (f ++ (g ++ (h ++ (i ++ j))))))))) before
parts_put a b c d e f g h i j before t0 t1 t2 t3 t4 t5 t6 t7 t8 t9 t10 begun p1 p2 p3 p4 p5 p6 p7 p8 p9 p10 =
    let h-part = then_put h (i ++ j) t7 t8 t10 p8 (then_put i j t8 t9 t10 p9 p10) in
    let f-part = then_put f (g ++ (h ++ (i ++ j))) t5 t6 t10 p6 (then_put g (h ++ (i ++ j)) t6 t7 t10 p7 h-part) in
    let d-part = then_put d _ t3 t4 t10 p4 (then_put e (f ++ (g ++ (h ++ (i ++ j)))) t4 t5 t10 p5 f-part) in
    let b-part = then_put b _ t1 t2 t10 p2 (then_put c (d ++ (e ++ (f ++ (g ++ (h ++ (i ++ j)))))) t2 t3 t10 p3 d-part) in
    then_put a _ t0 t1 t10 p1 b-part
    ∙ ap (with_members (a ++ (b ++ (c ++ (d ++ (e ++ (f ++ (g ++ (h ++ (i ++ j)))))))))) begun

-- number, time, interface and length, the content of the packet, the verdict, and the comments
pub returns : goal.returns
returns c =
    let (what, are, put_what) = c.in_ok-put_content.ensures in
    let info = c.args.info.now in
    let packet = c.args.packet.now in
    let tunnels = rw c.as_slice.ensures.value at c.in_ok-put_tunnels.ensures in
    let begun = c.in_ok-put_number.ensures ∙ ap (put (codes "number") (whole_number info.number)) c.in_ok-put_text.ensures in
    on_ok_weaker c.put_comments.result
    (λ last. (
      _,
      (what, are, refl),
      parts_put (time_members c.args.times info.first info.capture.time) (packet_interface_members info.texts.interface)
          (frame_members info.capture.len) (tunnel_members packet.tunnels.items) what (arp_members packet.arp)
          (fragment_members packet.fragment) (hop_limit_members packet.hop_limit)
          (verdict_members packet.verdict) (comments_members info.texts.comments) _ _ _ _ _ _ _ _ _ _ _ _ begun
          c.in_ok-put_time.ensures c.in_ok-put_interface.ensures c.in_ok-put_frame_len.ensures tunnels put_what c.in_ok-put_arp.ensures
          c.in_ok-put_fragment.ensures c.in_ok-put_hop_limit.ensures c.in_ok-put_verdict.ensures last,
    ))
    c.put_comments.ensures
