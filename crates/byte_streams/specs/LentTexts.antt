-- The texts behind references.
use Rattle.byte_streams.specs.Documents.{Texts, three}
use Rattle.byte_streams.specs.declared.documents.Documents.{Documents}

abbrev pub texts_of : Documents → Texts
texts_of documents = three documents.puzzle.now documents.list.now documents.certificate.now
