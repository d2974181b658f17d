use Rattle.texts.proofs.News.{union_where_done}
use Rattle.texts.proofs.replica.Replica.merge_from.Goals as goal

pub returns-clause-union : goal.returns-clause-union
returns-clause-union c =
    union_where_done c.args.self.now c.args.other.now c.take_news.new.self
    c.take_news.result c.lemma_is_text.ensures c.lemma_is_text-2.ensures c.take_news.ensures
